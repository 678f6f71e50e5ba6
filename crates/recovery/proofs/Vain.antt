-- A replica that pruned asks in vain for a block below its reach: nothing changes with it.
use Rattle.ids.specs.declared.fault.Fault.{Fault}
use Rattle.ids.specs.declared.fault.Fault.TheVariants as fault
use Rattle.ids.specs.declared.limits.TheConstants.{MOST_BLOCKS}
use Rattle.std.proofs.Common.{ℕ, ◌≡◌, ◌<◌, true, List, [], ◌∷◌, ◌++◌, map, refl}
use Rattle.std.proofs.Common.{sym, ap, subst, ◌∙◌, arith, Option, Some, None, nat_lt, Ok}
use Rattle.std.proofs.lemmas.Bool.{cond-true, lt-ltb}
use Rattle.std.specs.List.{AllByRecursion}
use Rattle.ids.specs.Sizes.{Sizes, replicas}
use Rattle.definitions.specs.Lists.{Among, AreDistinct}
use Rattle.definitions.specs.Admission.{Checked, Checked.rejected, check_gathered}
use Rattle.definitions.specs.Branches.{Block, Branch}
use Rattle.definitions.specs.Checks.{Identity, Findings, cut}
use Rattle.definitions.specs.Chronicles.{Admitted, Chronicle, window, horizon}
use Rattle.definitions.specs.Digests.{digest, digest_of, core_of, core_over, AllKnown}
use Rattle.definitions.specs.Frames.{Core, Certificate}
use Rattle.definitions.specs.Replicas.{MemorySupply.ample, Replica, Standing.running}
use Rattle.definitions.specs.Rulings.{Ruling.refusing, on_relay, ruling}
use Rattle.definitions.specs.Trees.{Placing, Placing.unfit, placing, placing_known, placing_over, find_in}
use Rattle.definitions.specs.Worlds.{World, Event.gather, Happening, Source, is_correct, self_of}
use Rattle.definitions.specs.Runs.{run, after}
use Rattle.definitions.specs.Events.{Effect, happens, effect, acts, nothing, party_of, on_checked, frames_of}
use Rattle.definitions.proofs.Horizons.{window-tree}
use Rattle.definitions.proofs.Trees.{found-in}
use Rattle.linear_law.proofs.Runs.{member-faulty}
use Rattle.recovery.specs.Correct.{OfCorrect, AllGoOn, ShareKeys, chronicle_of}
use Rattle.recovery.specs.Healing.{fetch_block}
use Rattle.recovery.specs.Fetching.{OnlyAsked, IsHolder}
use Rattle.recovery.proofs.Asked.{gather-hands}
use Rattle.recovery.proofs.Copies.{copies-of, copies-checked, gathered-input}
use Rattle.recovery.proofs.Fetched.{has-asked, fetch-ran, asked_world, answers_of, answerers, who-answers}
use Rattle.recovery.proofs.Fetched.{window-told}
use Rattle.recovery.proofs.Places.{digest-own}
use Rattle.recovery.proofs.Steps.{refused}
use Rattle.recovery.proofs.Ways.{IsOnWay, KnownAt, on-way}
use Rattle.recovery.proofs.Wells.{IsReached, known-of, one-branch}
use Rattle.recovery.proofs.Worlds.{made-after, keys-in, same-correct, effect-correct}

-- ---- where it is

-- a block that justifies one below the horizon, and doesn't stand there, has no place
vain-placing : (c : Chronicle) (b : Block) (parent : Branch) (q : Certificate)
    → (Among (b ∷ parent) (window c) → ⊥)
    → ((y : Branch) → Among y (window c) → digest_of y ≡ digest_of (b ∷ parent) → y ≡ b ∷ parent)
    → b.justify < horizon c
    → placing (horizon c) MOST_BLOCKS (core_of (b ∷ parent)) q (window c) ≡ unfit fault.Pruned
unfolding placing core_of core_over
vain-placing c b parent q lacks one low = by (find_in (digest (core_of (b ∷ parent))) (window c)) refl
  where
    h : ℕ
    h = horizon c

    t : List Branch
    t = window c

    by : (o : Option Branch) → find_in (digest (core_of (b ∷ parent))) t ≡ o
        → elim o [
          | Some y ↦ placing_known h y q
          | None ↦ placing_over h MOST_BLOCKS (core_of (b ∷ parent)) q t
        ] ≡ unfit fault.Pruned
    by (Some y) e =
        let f = found-in (digest (core_of (b ∷ parent))) t y e in
        let same = one y f.0 (f.1 ∙ sym (digest-own b parent)) in
        absurd (lacks (subst (λ (z : Branch). Among z t) same f.0))
    by None e = cond-true (nat_lt b.justify h) (unfit fault.Pruned) _ (lt-ltb b.justify h low)

-- so its copies are refused
vain-ruling : (self : Identity) (senders : List ℕ) (core : Core) (q : Certificate) (f : Findings) (c : Chronicle)
    (p : Placing) → p ≡ unfit fault.Pruned → on_relay self senders core q f c p ≡ refusing fault.Pruned
unfolding on_relay
vain-ruling self senders core q f c p e = ap (on_relay self senders core q f c) e

-- ---- the event

-- a replica that is as it was, in a world where no session changed
record IsStill (w last : World) : Type 0 where
  row : (j : ℕ) → last.replica j ≡ w.replica j
  session : last.session ≡ w.session

-- what is rejected changes nothing
rejected-still : (w : World) (u : ℕ) (ss : List Source) (n : Fault) → is_correct w u ≡ true
    → check_gathered (self_of w u) (frames_of w ss) ≡ rejected n → IsStill w (happens w (gather u ss, ample))
unfolding acts party_of happens nothing
rejected-still w u ss n c h =
    let is : effect w (gather u ss, ample) ≡ nothing w (Some n) =
    effect-correct w (gather u ss, ample) (member-faulty w u c)
    ∙ ap (λ (x : Checked). on_checked u ample x w) h in
    record {
      row = λ j. ap (λ (e : Effect). e.replica j) is;
      session = ap (λ (e : Effect). e.session) is;
    }

-- no copy is no frame
none-gathered : (self : Identity) → check_gathered self [] ≡ rejected fault.NotAFrame
unfolding check_gathered
none-gathered self = refl

-- where the block is below its reach, nothing changes
vain-gather : (Known : Core → Type 0) (v : World) → IsReached Known v → ShareKeys v → (u : ℕ) → is_correct v u ≡ true
    → (v.replica u).standing ≡ running → (b : Block) (parent : Branch) → AllKnown Known (b ∷ parent)
    → (Among (b ∷ parent) (window (chronicle_of v u)) → ⊥) → b.justify < horizon (chronicle_of v u)
    → (ss : List Source) (hs : List (ℕ × Admitted)) → frames_of v ss ≡ copies-of v u hs
    → AreDistinct (map (λ h. h.0) hs) → AllByRecursion (IsHolder v (b ∷ parent)) hs
    → IsStill v (happens v (gather u ss, ample))
unfolding gathered-input ruling
vain-gather Known v g keys u c s b parent known lacks low ss [] frames distinct held =
    rejected-still v u ss fault.NotAFrame c
    (ap (check_gathered (self_of v u)) frames ∙ none-gathered (self_of v u))
vain-gather Known v g keys u c s b parent known lacks low ss (h ∷ hs) frames distinct held =
    let x : Branch = b ∷ parent in
    let q : Certificate = cut (self_of v h.0) h.1.certificate in
    let checked = copies-checked Known v g keys u c x h hs held distinct in
    let place = vain-placing (chronicle_of v u) b parent q lacks
    (λ y m e. one-branch Known v g y x (known-of Known v g u c y (window-tree (chronicle_of v u) y m)) known e) low in
    let st = refused v (gather u ss) u (gathered-input v u x q (h ∷ hs)) fault.Pruned
    (gather-hands v u ss (copies-of v u (h ∷ hs)) (gathered-input v u x q (h ∷ hs)) c s frames checked)
    (vain-ruling (self_of v u) _ (core_of x) q _ (chronicle_of v u) _ place) refl in
    record { row = st.row; session = st.session }

-- ---- the fetch

-- A replica fetched in vain: no event was refused by the run, all go on, and were only asked.
pub record IsVain (w last : World) (u : ℕ) (x : Branch) : Type 0 where
  pub ran : run w (fetch_block (digest_of x) u w) ≡ Ok last
  pub going_on : AllGoOn last
  pub only : OfCorrect w (λ r. OnlyAsked (self_of w r) (chronicle_of w r) (chronicle_of last r))
  pub session : last.session ≡ w.session

module _ (sizes : Sizes) (start : World) (all : List Happening) (w : World) (u : ℕ) (b : Block) (parent : Branch)
  where
    pub fetched-vainly : (rest : List Happening)
        → IsOnWay sizes start all w (fetch_block (digest_of (b ∷ parent)) u w ++ rest) → ShareKeys w → AllGoOn w
        → is_correct w u ≡ true → AllKnown (KnownAt sizes start all) (b ∷ parent)
        → (Among (b ∷ parent) (window (chronicle_of w u)) → ⊥) → b.justify < horizon (chronicle_of w u)
        → IsVain w (after w (fetch_block (digest_of (b ∷ parent)) u w)) u (b ∷ parent)
    unfolding after
    fetched-vainly rest on keys goes correct known lacks low =
        let Known : Core → Type 0 = KnownAt sizes start all in
        let v : World = asked_world sizes start all w u b parent in
        let p = has-asked sizes start all w u b parent rest on keys goes correct known in
        let a = p.asked in
        let g = on-way sizes start all v _ p.on in
        let cu = same-correct w v a.made u ∙ correct in
        let o = a.only u correct in
        let f = o.0.forgotten in
        let st = vain-gather Known v g (keys-in w v a.made keys) u cu (a.going_on u cu) b parent known
        (λ m. lacks (subst (λ (l : List Branch). Among (b ∷ parent) l)
        (window-told (chronicle_of w u) (chronicle_of v u) o.0.taken o.0.forgotten) m))
        (omega (arith, low, f)) (answers_of sizes start all w u b parent) (answerers sizes start all w u b parent)
        p.frames (who-answers w u (digest_of (b ∷ parent)) (replicas w.sizes)).0 p.held in
        let last : World = happens v (gather u (answers_of sizes start all w u b parent), ample) in
        let ends = fetch-ran sizes start all w u b parent rest p in
        subst (λ (z : World). IsVain w z u (b ∷ parent)) (sym ends.1) (record {
          ran = ends.0;
          going_on = λ r c. ap (λ (y : Replica). y.standing) (st.row r)
              ∙ a.going_on r (sym (same-correct v last (made-after v ((
                gather u
                    (answers_of sizes start all w u b parent),
                ample,
              ) ∷ [])) r)
              ∙ c);
          only = λ r c. subst (λ (y : Replica). OnlyAsked (self_of w r) (chronicle_of w r) y.chronicle) (sym (st.row r))
              (a.only r c);
          session = st.session ∙ a.session;
        })
