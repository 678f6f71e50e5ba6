-- A leader's first block, and how many it takes to climb.
use Rattle.ids.specs.declared.fault.Fault.{Fault}
use Rattle.ids.specs.declared.kind.Kind.TheVariants as kind
use Rattle.std.specs.Prelude.{slice_index_or, max}
use Rattle.std.proofs.Common.{ℕ, ◌+◌, ◌-◌, ◌<◌, ◌≤◌, ◌≡◌, ◌==◌, List, [], ◌∷◌, ◌++◌, length, take}
use Rattle.std.proofs.Common.{sym, ap, ◌∙◌, refl, arith, eq-eqb, Result, OnOk}
use Rattle.std.proofs.lemmas.Bool.{cond-true, cond-false, ne_eqb}
use Rattle.definitions.specs.Bytes.{Bytes}
use Rattle.definitions.specs.Chronicles.{vheight}
use Rattle.definitions.specs.Digests.{digest, digest_of}
use Rattle.definitions.specs.Frames.{genesis_core}
use Rattle.definitions.specs.Runs.{after}
use Rattle.definitions.specs.States.{leaf}
use Rattle.definitions.specs.Worlds.{World, Event.lead, Event.beat, self_of}
use Rattle.recovery.specs.Correct.{amply, chronicle_of, correct_replicas}
use Rattle.recovery.specs.Healing.{Phase, in_turn, sent_since, is_proposal, comes_to, newcomers, over_lock, make_first}
use Rattle.recovery.specs.Healing.{highest_voted, to_climb}
use Rattle.world_schedule.specs.declared.event.Event.TheVariants.{Lead, Beat}
use Rattle.healer.specs.Courses.{Course, Takes, Goes, GoesWhere, Told, ToldWhere, AreCorrect}
use Rattle.healer.specs.Records.{is_of}
use Rattle.healer.proofs.Highest.{highest-next, highest-all}
use Rattle.healer.proofs.Making.{since}
use Rattle.healer.proofs.Members.{still-correct}
use Rattle.healer.proofs.Phases.{goes-one, goes-event}
use Rattle.healer.proofs.Records.{proposals}
use Rattle.healer.proofs.Turns.{where-too, where-as, where-none, two-phases, on-ok-too}

-- ---- the first block

-- what is known where a leader may make it
abbrev pub MayMake : List ℕ → ℕ → ℕ → World → Type 0
MayMake rs l over w = AreCorrect rs w × (over ≡ length (over_lock l w))

-- what it comes to where genesis justifies the leader's lock
first_of : ℕ → World → Phase
first_of l w =
    in_turn ((λ v. amply (lead l (digest_of []) ∷ beat l ∷ []))
    ∷ (λ v. amply (comes_to (newcomers v (correct_replicas v)) (sent_since (length w.sent) is_proposal v))) ∷ [])

first-is : (l : ℕ) (w : World) → (length (over_lock l w) ≡ 0) → first_of l w w ≡ make_first l w
unfolding first_of make_first
first-is l w e = sym (cond-true (length (over_lock l w) == 0) _ _ (eq-eqb (length (over_lock l w)) 0 e))

pub first-made : (l over before : ℕ) (d : Bytes) (rs news ks : List ℕ) (a b c e : Course) (r : Result (Unit {0}) Fault)
    → over ≡ 0 → d ≡ digest_of [] → Told a (λ w. before ≡ length w.sent) → Takes a (Lead l d) b → Takes b (Beat l) c
    → Told c (λ w. ks ≡ sent_since before (is_of kind.Proposal) w)
    → ToldWhere c (AreCorrect rs) (λ w. news ≡ newcomers w rs) → OnOk r (Goes c (λ w. amply (comes_to news ks)) e)
    → OnOk r (GoesWhere a (MayMake rs l over) (make_first l) e)
unfolding first_of
first-made l over before d rs news ks a b c e r zero is told t u told' new h = on-ok-too _ _ r by h
  where
    P : World → Type 0
    P = MayMake rs l over

    p : Phase
    p v = amply (lead l (digest_of []) ∷ beat l ∷ [])

    led : Goes a p c
    led =
        goes-event a b c (λ w. amply (lead l (digest_of []) ∷ [])) (Beat l) (beat l)
        (goes-one a b (Lead l d) (lead l (digest_of [])) t (λ reads. ap (λ (x : Bytes). lead l x) is)) u
        (λ reads. refl)

    by : Goes c (λ w. amply (comes_to news ks)) e → GoesWhere a P (make_first l) e
    by g =
        where-as a e P (λ w. first_of l w w) (make_first l) (λ w x. first-is l w (sym x.1 ∙ zero))
        (two-phases a c e P (AreCorrect rs) p (λ v. amply (comes_to news ks))
        (λ w v. amply (comes_to (newcomers v (correct_replicas v)) (sent_since (length w.sent) is_proposal v)))
        (where-too a c P p led) (where-too c e (AreCorrect rs) (λ v. amply (comes_to news ks)) g)
        (λ hs w s x s'.
        let v : World = after w (p w) in
        let own : AreCorrect rs v = still-correct rs w (p w) x.0 in (
          own,
          ap (λ (ps : List ℕ). amply (comes_to ps ks)) (new (hs ++ p w) v s' own)
              ∙ (ap (λ (ps : List ℕ). amply (comes_to (newcomers v ps) ks)) own
              ∙ ap (λ (ns : List ℕ). amply (comes_to (newcomers v (correct_replicas v)) ns))
              (since (is_of kind.Proposal) is_proposal before ks w v proposals (told hs w s) (told' (hs ++ p w) v s'))),
        )))

pub first-passed : (l over : ℕ) (rs : List ℕ) (a : Course) → 0 < over → GoesWhere a (MayMake rs l over) (make_first l) a
unfolding make_first
first-passed l over rs a z =
    where-as a a (MayMake rs l over) (λ w. []) (make_first l)
    (λ w x. let e = x.1 in
    sym (cond-false (length (over_lock l w) == 0) _ []
    (ne_eqb (length (over_lock l w)) 0 (λ h. let no : ⊥ = omega (arith, z, e, h) in no))))
    (where-none a (MayMake rs l over) (λ w. []) (λ w. refl))

-- ---- the greatest height that was voted for

pub voted-none : (w : World) → highest_voted w [] ≡ 0
unfolding highest_voted
voted-none w = refl

voted-first : (w : World) (r : ℕ) (rs : List ℕ)
    → highest_voted w (r ∷ rs) ≡ max (vheight (chronicle_of w r)) (highest_voted w rs)
unfolding highest_voted
voted-first w r rs = refl

pub voted-next : (w : World) (rs : List ℕ) (i d r high voted : ℕ) → i < length rs → r ≡ slice_index_or rs i d
    → high ≡ highest_voted w (take i rs) → voted ≡ vheight (chronicle_of w r)
    → max high voted ≡ highest_voted w (take (i + 1) rs)
voted-next w = highest-next (λ r. vheight (chronicle_of w r)) (highest_voted w) (voted-none w) (voted-first w)

pub voted-all : (w : World) (rs : List ℕ) (i high : ℕ) → length rs ≤ i → high ≡ highest_voted w (take i rs)
    → high ≡ highest_voted w rs
voted-all w = highest-all (λ r. vheight (chronicle_of w r)) (highest_voted w) (voted-none w) (voted-first w)

pub climb-is : (w : World) (rs : List ℕ) (l voted high count : ℕ) → AreCorrect rs w → voted ≡ highest_voted w rs
    → high ≡ length (leaf (self_of w l) (chronicle_of w l)) → count ≡ (voted - high) + 1 → count ≡ to_climb l w
climb-is w rs l voted high count own v h c =
    let e : voted ≡ highest_voted w (correct_replicas w) = v ∙ ap (λ (ps : List ℕ). highest_voted w ps) own in
    omega (arith, e, h, c)

-- genesis's digest
pub genesis-is : (d : Bytes) → d ≡ digest genesis_core → d ≡ digest_of []
unfolding digest_of
genesis-is d e = e
