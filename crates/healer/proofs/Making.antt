-- Blocks that decide, and a request that comes again.
use Rattle.ids.specs.declared.fault.Fault.{Fault}
use Rattle.ids.specs.declared.kind.Kind.TheVariants as kind
use Rattle.std.proofs.Common.{ℕ, zero, suc, ◌+◌, ◌≡◌, ◌==◌, not, Bool, List, [], ◌∷◌, ◌++◌, length, filter, sym, ap, ◌∙◌}
use Rattle.std.proofs.Common.{refl, arith, append_assoc, Result, OnOk}
use Rattle.definitions.specs.Frames.{Frame}
use Rattle.definitions.specs.Runs.{after}
use Rattle.definitions.specs.Worlds.{World, Event.beat, Happening}
use Rattle.recovery.specs.Correct.{amply, correct_replicas}
use Rattle.recovery.specs.Healing.{sent_since, comes_to, delivered_since, offered_to, make_block, make_blocks, burst}
use Rattle.recovery.specs.Healing.{round, rounds, ask_again, is_proposal, is_vote, is_reply, others}
use Rattle.world_schedule.specs.declared.event.Event.TheVariants.{Beat}
use Rattle.healer.specs.Courses.{Course, Takes, Goes, GoesWhere, Told, AreCorrect}
use Rattle.healer.specs.Records.{is_of}
use Rattle.healer.proofs.Courses.{nothing-behind}
use Rattle.healer.proofs.Members.{still-correct}
use Rattle.healer.proofs.Phases.{after-none, after-append, goes-as, goes-both, goes-none, goes-one}
use Rattle.healer.proofs.Records.{proposals, votes, replies}
use Rattle.healer.proofs.Turns.{turns-two, where-too, where-as, two-phases, turn-first, turn-last, on-ok-too}

-- the frames of a kind that were sent since the record had so many
pub since : (p q : Frame → Bool) (before : ℕ) (ks : List ℕ) (w v : World) → p ≡ q → before ≡ length w.sent
    → ks ≡ sent_since before p v → ks ≡ sent_since (length w.sent) q v
since p q before ks w v same is h =
    h ∙ (ap (λ (n : ℕ). sent_since n p v) is ∙ ap (λ (t : Frame → Bool). sent_since (length w.sent) t v) same)

-- ---- blocks

-- whatever the world is
abbrev Any : World → Type 0
Any w = Unit {0}

pub makes-block : (l before : ℕ) (ks : List ℕ) (a b c : Course) (r : Result (Unit {0}) Fault)
    → Told a (λ w. before ≡ length w.sent) → Takes a (Beat l) b
    → Told b (λ w. ks ≡ sent_since before (is_of kind.Proposal) w)
    → OnOk r (Goes b (λ w. amply (offered_to (l ∷ []) ks)) c) → OnOk r (Goes a (make_block l) c)
unfolding make_block
makes-block l before ks a b c r told t told' h = on-ok-too _ _ r (λ g hs w s. by g hs w s tt) h
  where
    by : Goes b (λ w. amply (offered_to (l ∷ []) ks)) c → GoesWhere a Any (make_block l) c
    by g =
        two-phases a b c Any Any (λ v. amply (beat l ∷ [])) (λ v. amply (offered_to (l ∷ []) ks))
        (λ w v. amply (offered_to (l ∷ []) (sent_since (length w.sent) is_proposal v)))
        (where-too a b Any (λ v. amply (beat l ∷ [])) (goes-one a b (Beat l) (beat l) t (λ reads. refl)))
        (where-too b c Any (λ v. amply (offered_to (l ∷ []) ks)) g)
        (λ hs w s x s'. (
          tt,
          ap (λ (n : List ℕ). amply (offered_to (l ∷ []) n))
              (since (is_of kind.Proposal) is_proposal before ks w (after w (amply (beat l ∷ []))) proposals (told hs w s)
              (told' (hs ++ amply (beat l ∷ [])) (after w (amply (beat l ∷ []))) s')),
        ))

blocks-more : (n l : ℕ) (w : World) → make_blocks n l w ++ make_block l (after w (make_blocks n l w))
    ≡ make_blocks (suc n) l w
unfolding make_blocks
blocks-more zero l w =
    ap (make_block l) (after-none w)
    ∙ (sym (nothing-behind (make_block l w)) ∙ sym (turns-two (make_block l) (make_blocks zero l) w))
blocks-more (suc n) l w =
    let v : World = after w (make_block l w) in
    let first : make_blocks (suc n) l w ≡ make_block l w ++ make_blocks n l v =
    turns-two (make_block l) (make_blocks n l) w in
    ap (λ (hs : List Happening). hs ++ make_block l (after w hs)) first
    ∙ (append_assoc (make_block l w) (make_blocks n l v) (make_block l (after w (make_block l w ++ make_blocks n l v)))
    ∙ (ap (λ (z : World). make_block l w ++ (make_blocks n l v ++ make_block l z))
    (after-append w (make_block l w) (make_blocks n l v))
    ∙ (ap (λ (hs : List Happening). make_block l w ++ hs) (blocks-more n l v)
    ∙ sym (turns-two (make_block l) (make_blocks (suc n) l) w))))

pub blocks-none : (n l : ℕ) (a : Course) → n ≡ 0 → Goes a (make_blocks n l) a
unfolding make_blocks
blocks-none n l a e =
    goes-as a a (λ w. []) (make_blocks n l) (λ w. sym (ap (λ (k : ℕ). make_blocks k l w) e)) (goes-none a)

pub blocks-next : (n l : ℕ) (a b c : Course) → Goes a (make_blocks n l) b → Goes b (make_block l) c
    → Goes a (make_blocks (n + 1) l) c
blocks-next n l a b c g h =
    goes-as a c (λ w. make_blocks n l w ++ make_block l (after w (make_blocks n l w))) (make_blocks (n + 1) l)
    (λ w. blocks-more n l w ∙ ap (λ (k : ℕ). make_blocks k l w) (let e : suc n ≡ n + 1 = omega arith in e))
    (goes-both a b c (make_blocks n l) (make_block l) g h)

pub blocks-all : (n count l : ℕ) (a b : Course) → n ≡ count → Goes a (make_blocks n l) b → Goes a (make_blocks count l) b
blocks-all n count l a b e g =
    goes-as a b (make_blocks n l) (make_blocks count l) (λ w. ap (λ (k : ℕ). make_blocks k l w) e) g

-- ---- rounds

pub bursts : (n l before : ℕ) (rs us ks : List ℕ) (a b c : Course) (r : Result (Unit {0}) Fault)
    → Told a (λ w. before ≡ length w.sent) → Goes a (make_blocks n l) b
    → Told b (λ w. ks ≡ sent_since before (is_of kind.Proposal) w) → us ≡ filter (λ x. not (x == l)) rs
    → OnOk r (Goes b (λ w. amply (offered_to us ks)) c) → OnOk r (GoesWhere a (AreCorrect rs) (burst n l) c)
unfolding burst
bursts n l before rs us ks a b c r told g told' is h = on-ok-too _ _ r by h
  where
    by : Goes b (λ w. amply (offered_to us ks)) c → GoesWhere a (AreCorrect rs) (burst n l) c
    by k =
        two-phases a b c (AreCorrect rs) (AreCorrect rs) (make_blocks n l) (λ v. amply (offered_to us ks))
        (λ w v. amply (offered_to (others l v) (sent_since (length w.sent) is_proposal v)))
        (where-too a b (AreCorrect rs) (make_blocks n l) g)
        (where-too b c (AreCorrect rs) (λ v. amply (offered_to us ks)) k)
        (λ hs w s x s'.
        let v : World = after w (make_blocks n l w) in
        let y : AreCorrect rs v = still-correct rs w (make_blocks n l w) x in (
          y,
          ap (λ (ps : List ℕ). amply (offered_to ps ks)) (is ∙ ap (λ (ps : List ℕ). filter (λ z. not (z == l)) ps) y)
              ∙ ap (λ (ns : List ℕ). amply (offered_to (others l v) ns))
              (since (is_of kind.Proposal) is_proposal before ks w v proposals (told hs w s)
              (told' (hs ++ make_blocks n l w) v s')),
        ))

pub round-goes : (n l before : ℕ) (rs ks : List ℕ) (a b c : Course) (r : Result (Unit {0}) Fault)
    → Told a (λ w. before ≡ length w.sent) → GoesWhere a (AreCorrect rs) (burst n l) b
    → Told b (λ w. ks ≡ sent_since before (is_of kind.Vote) w)
    → OnOk r (Goes b (λ w. amply (comes_to rs ks)) c) → OnOk r (GoesWhere a (AreCorrect rs) (round n l) c)
unfolding round
round-goes n l before rs ks a b c r told g told' h = on-ok-too _ _ r by h
  where
    by : Goes b (λ w. amply (comes_to rs ks)) c → GoesWhere a (AreCorrect rs) (round n l) c
    by k =
        two-phases a b c (AreCorrect rs) (AreCorrect rs) (burst n l) (λ v. amply (comes_to rs ks))
        (λ w v. amply (comes_to (correct_replicas v) (sent_since (length w.sent) is_vote v))) g
        (where-too b c (AreCorrect rs) (λ v. amply (comes_to rs ks)) k)
        (λ hs w s x s'.
        let v : World = after w (burst n l w) in
        let y : AreCorrect rs v = still-correct rs w (burst n l w) x in (
          y,
          ap (λ (ps : List ℕ). amply (comes_to ps ks)) y
              ∙ ap (λ (ns : List ℕ). amply (comes_to (correct_replicas v) ns))
              (since (is_of kind.Vote) is_vote before ks w v votes (told hs w s) (told' (hs ++ burst n l w) v s')),
        ))

pub rounds-go : (n l : ℕ) (rs : List ℕ) (a b c d e : Course) (r : Result (Unit {0}) Fault)
    → GoesWhere a (AreCorrect rs) (round n l) b → GoesWhere b (AreCorrect rs) (round 1 l) c
    → GoesWhere c (AreCorrect rs) (round 1 l) d → OnOk r (GoesWhere d (AreCorrect rs) (round 1 l) e)
    → OnOk r (GoesWhere a (AreCorrect rs) (rounds n l) e)
unfolding rounds
rounds-go n l rs a b c d e r g h k last =
    on-ok-too _ _ r (λ m.
    turn-first a b e P P (round n l) (round 1 l ∷ round 1 l ∷ round 1 l ∷ []) g
    (turn-first b c e P P (round 1 l) (round 1 l ∷ round 1 l ∷ []) h
    (turn-first c d e P P (round 1 l) (round 1 l ∷ []) k (turn-last d e P (round 1 l) m) (stays (round 1 l)))
    (stays (round 1 l))) (stays (round n l))) last
  where
    P : World → Type 0
    P = AreCorrect rs

    stays : (p : World → List Happening) (w : World) → P w → P (after w (p w))
    stays p w x = still-correct rs w (p w) x

-- ---- a request that comes again

pub asks-again : (k before : ℕ) (rs : List ℕ) (a b c : Course) (r : Result (Unit {0}) Fault)
    → Told a (λ w. before ≡ length w.sent) → Goes a (λ w. amply (comes_to rs (k ∷ []))) b
    → OnOk r (GoesWhere b (AreCorrect rs) (λ w. amply (delivered_since before (is_of kind.Reply) w)) c)
    → OnOk r (GoesWhere a (AreCorrect rs) (ask_again k) c)
unfolding ask_again
asks-again k before rs a b c r told g h = on-ok-too _ _ r by h
  where
    p : World → List Happening
    p v = amply (comes_to (correct_replicas v) (k ∷ []))

    by : GoesWhere b (AreCorrect rs) (λ w. amply (delivered_since before (is_of kind.Reply) w)) c
        → GoesWhere a (AreCorrect rs) (ask_again k) c
    by m =
        two-phases a b c (AreCorrect rs) (AreCorrect rs) p (λ v. amply (delivered_since before (is_of kind.Reply) v))
        (λ w v. amply (delivered_since (length w.sent) is_reply v))
        (where-as a b (AreCorrect rs) (λ w. amply (comes_to rs (k ∷ []))) p
        (λ w x. ap (λ (ps : List ℕ). amply (comes_to ps (k ∷ []))) x)
        (where-too a b (AreCorrect rs) (λ w. amply (comes_to rs (k ∷ []))) g)) m
        (λ hs w s x s'.
        let v : World = after w (p w) in (
          still-correct rs w (p w) x,
          ap (λ (n : ℕ). amply (delivered_since n (is_of kind.Reply) v)) (told hs w s)
              ∙ ap (λ (t : Frame → Bool). amply (delivered_since (length w.sent) t v)) replies,
        ))
