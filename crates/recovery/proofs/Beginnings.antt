-- A replica leads from its lock.
use Rattle.std.proofs.Common.{ℕ, ◌≡◌, not, true, List, [], ◌∷◌, ◌++◌, refl, ap, ◌∙◌, Option, Some, None}
use Rattle.std.proofs.lemmas.Bool.{cond-true, and_parts}
use Rattle.definitions.specs.Bytes.{Bytes}
use Rattle.definitions.specs.Branches.{Branch}
use Rattle.definitions.specs.Checks.{Identity}
use Rattle.definitions.specs.Chronicles.{Chronicle, Step.noted, Note.led_from, taken_blocks, voted_blocks, window, lock}
use Rattle.definitions.specs.Digests.{digest_of}
use Rattle.definitions.specs.Grounds.{may_lead_from}
use Rattle.ids.specs.Sizes.{Sizes}
use Rattle.definitions.specs.Replicas.{MemorySupply.ample, Replica, Standing.running}
use Rattle.definitions.specs.Rulings.{Input.lead_in, lead, ruling}
use Rattle.definitions.specs.States.{leaf, pending, qc_high, find_block}
use Rattle.definitions.specs.Worlds.{World, Happening, new_world, is_correct, is_replica, self_of}
use Rattle.definitions.specs.Worlds as worlds
use Rattle.definitions.specs.Runs.{refusal, after}
use Rattle.definitions.specs.Events.{acts, happens, party_of}
use Rattle.definitions.proofs.Horizons.{lock-window, led-high}
use Rattle.definitions.proofs.Trees.{found-itself}
use Rattle.recovery.specs.Correct.{chronicle_of, lock_of}
use Rattle.recovery.specs.Locks.{lead_events, LeadsBegin}
use Rattle.recovery.proofs.Locks.{led-from-lock}
use Rattle.recovery.proofs.Offers.{row-own, row-other}
use Rattle.recovery.proofs.Steps.{HandsIn, TookStep, step-stood}
use Rattle.recovery.proofs.Ways.{IsOnWay, KnownAt, on-way-from, on-way, way-on}
use Rattle.recovery.proofs.Wells.{sound-of}
use Rattle.recovery.proofs.Worlds.{passes-none, passes-one, named}

pub lead-leaf : (self : Identity) (m : Branch) (c : Chronicle) → leaf self (noted (led_from m) ∷ c) ≡ m
unfolding leaf
lead-leaf self m c = refl

pub lead-pending : (m : Branch) (c : Chronicle) → pending (noted (led_from m) ∷ c) ≡ []
unfolding pending
lead-pending m c = refl

pub lead-taken : (m : Branch) (c : Chronicle) → taken_blocks (noted (led_from m) ∷ c) ≡ taken_blocks c
unfolding taken_blocks
lead-taken m c = refl

pub lead-voted : (m : Branch) (c : Chronicle) → voted_blocks (noted (led_from m) ∷ c) ≡ voted_blocks c
unfolding voted_blocks
lead-voted m c = refl

pub lead-hands : (w : World) (l : ℕ) (d : Bytes) → is_correct w l ≡ true → (w.replica l).standing ≡ running
    → HandsIn w (worlds.lead l d) l (lead_in d)
unfolding acts party_of
lead-hands w l d c s = record { party = refl; correct = c; goes_on = s; acting = refl }

module _ (sizes : Sizes) (start : World) (all : List Happening) where
  -- a replica that may lead from its lock does once it is told to
  pub lead-comes : (w : World) (rest : List Happening) (l : ℕ)
      → IsOnWay sizes start all w ((worlds.lead l (digest_of (lock_of w l)), ample) ∷ rest) → is_correct w l ≡ true
      → (w.replica l).standing ≡ running → may_lead_from (self_of w l) (lock_of w l) (chronicle_of w l) ≡ true
      → (refusal w (worlds.lead l (digest_of (lock_of w l))) ≡ None)
      × TookStep w (happens w (worlds.lead l (digest_of (lock_of w l)), ample)) l (noted (led_from (lock_of w l)))
  unfolding ruling find_block
  lead-comes w rest l on c s may =
      let g = on-way sizes start all w _ on in
      let ch : Chronicle = chronicle_of w l in
      let m : Branch = lock ch in
      let so = sound-of (KnownAt sizes start all) w g l c in
      let there : find_block (digest_of m) ch ≡ Some m =
      found-itself _ (window ch) so.is_tree m (lock-window w.sizes ch so.lawful) in
      let ev = worlds.lead l (digest_of m) in
      let due = ap (λ (o : Option Branch). lead (self_of w l) o ch) there ∙ cond-true _ _ _ may in
      let ok : refusal w ev ≡ None =
      named w ev (and_parts (is_replica w l) (not (w.is_faulty l)) c).0 refl refl in
      let on1 = way-on sizes start all w (ev, ample) rest on ok in (
        ok,
        step-stood w ev l (lead_in (digest_of m)) (noted (led_from m)) (lead-hands w l
            (digest_of m) c s) due on1.well.good.answers,
      )

pub leads-begin : LeadsBegin
unfolding after
leads-begin l sizes is_faulty ring hs w met e c s some =
    let start : World = new_world sizes is_faulty ring in
    let all : List Happening = hs ++ lead_events l w in
    let on = on-way-from sizes is_faulty ring hs (lead_events l w) w met e in
    let g = on-way sizes start all w (lead_events l w) on in
    let ch : Chronicle = chronicle_of w l in
    let m : Branch = lock ch in
    let law = (sound-of (KnownAt sizes start all) w g l c).lawful in
    let one = lead-comes sizes start all w [] l on c s (led-from-lock (self_of w l) ch law some) in
    let ev = worlds.lead l (digest_of m) in
    let next : World = happens w (ev, ample) in
    let st = one.1 in
    let own = row-own w next l (noted (led_from m)) st in
    let ownc : chronicle_of next l ≡ noted (led_from m) ∷ ch = ap (λ (x : Replica). x.chronicle) own in
    record {
      ran = passes-one w (ev, ample) [] one.0 (passes-none next);
      goes_on = ap (λ (x : Replica). x.standing) own;
      leaf_is = ap (leaf (self_of w l)) ownc ∙ lead-leaf (self_of w l) m ch;
      high = ap (λ (x : Chronicle). (qc_high w.sizes x).block) ownc ∙ led-high w.sizes m ch;
      none_waits = ap pending ownc ∙ lead-pending m ch;
      taken = ap taken_blocks ownc ∙ lead-taken m ch;
      voted = ap voted_blocks ownc ∙ lead-voted m ch;
      others = row-other w next l (noted (led_from m)) st;
    }
