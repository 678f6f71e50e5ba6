-- A small run, computed.
use Rattle.std.proofs.Common.{refl}
use Rattle.definitions.specs.Lists.{count_below}
use Rattle.definitions.specs.Digests.{digest, core_over, digest_of, core_of}
use Rattle.definitions.specs.Checks.{is_good, cut}
use Rattle.definitions.specs.Sendings.{vote_frame, proposal_frame}
use Rattle.definitions.specs.Worlds.{new_world}
use Rattle.definitions.specs.Events.{party_of, brought, listed, happens}
use Rattle.definitions.specs.Runs.{after}
use Rattle.std.specs.Prelude.{◌≡◌, [], ◌∷◌}
use Rattle.definitions.specs.Replicas.{ample}
use Rattle.definitions.specs.Sendings.{to_all, to_party}
use Rattle.definitions.specs.Worlds.{World, Sent, beat}
use Rattle.std.proofs.Common.{arith, inl, inr, sym, subst, ◌∙◌, ◌⊎◌, get_or, ap, option_map}
use Rattle.std.proofs.Common.{slice_get}
use Rattle.std.specs.Prelude.{List}
use Rattle.definitions.specs.Lists.{Among}
use Rattle.definitions.specs.Premises.{Claim, accepted_tags, WasSent, NoForgeryIn, CoreOf, CoreBrought}
use Rattle.definitions.specs.Premises.{CoreOfRun}
use Rattle.definitions.specs.Worlds.{self_of, relay}
use Rattle.definitions.specs.Frames.{Frame, Core, genesis_core}
use Rattle.definitions.specs.Checks.{Identity}
use Rattle.definitions.specs.Bytes.{Bytes}
use Rattle.worked_examples.specs.Runs.{IsTakenWhole, SendsOneVote, Lengths, Answers, PremisesHold, sizes}
use Rattle.worked_examples.specs.Runs.{start}
use Rattle.worked_examples.specs.Runs as example
use Rattle.worked_examples.proofs.Computed.{of_steps}

-- the proposal in the record
abbrev proposal_sent : Sent
proposal_sent = record { event = 1; sender = 0; to = to_all; frame = example.proposed }

-- what the run sends
pub sends : SendsOneVote
unfolding of_steps
sends = refl

-- no event is refused by the run
pub taken_whole : IsTakenWhole
unfolding of_steps
taken_whole = refl

-- how long its frames are
pub lengths : Lengths
unfolding of_steps
lengths = refl

-- nor by a party
pub answered : Answers
unfolding of_steps
answered = refl

-- ---- the premises

-- the record after the beat and after the vote
after_beat : (after start ((beat 0, ample) ∷ [])).sent ≡ proposal_sent ∷ []
unfolding of_steps
after_beat = refl

after_vote : (after start ((beat 0, ample) ∷ (relay 0 1, ample) ∷ [])).sent
    ≡ proposal_sent ∷ record { event = 2; sender = 1; to = to_party 0; frame = example.voted } ∷ []
unfolding of_steps
after_vote = refl

-- the proposal's own tag for replica 1 is all that replica 1 relies on, and it was sent
claim_was_sent : (sent : List Sent) → Among proposal_sent sent → (x : Claim)
    → Among x (accepted_tags (self_of start 1) example.proposed) → WasSent sent x
unfolding accepted_tags proposal_frame core_of core_over is_good cut new_world
claim_was_sent sent m x (inl e) =
    subst (WasSent sent) (sym e) (proposal_sent, m, refl, (refl, refl, refl, tt))
claim_was_sent sent m x (inr k) = absurd k

-- the proposal is the first frame of the record, and is brought
brings : (w : World) (rest : List Sent) → w.sent ≡ proposal_sent ∷ rest
    → brought w (relay 0 1) ≡ example.proposed ∷ []
unfolding brought
brings w rest e = ap (λ (l : List Sent). listed (option_map (λ (s : Sent). s.frame) (slice_get l 0))) e

same-frame : (w : World) (rest : List Sent) (f : Frame) → w.sent ≡ proposal_sent ∷ rest
    → Among f (brought w (relay 0 1)) → f ≡ example.proposed
same-frame w rest f e b = elim (subst (Among f) (brings w rest e) b) [ inl i ↦ i | inr n ↦ absurd n ]

-- so no tag in it is forged
none_forged : (w : World) (rest : List Sent) → self_of w 1 ≡ self_of start 1 → w.sent ≡ proposal_sent ∷ rest
    → NoForgeryIn w (relay 0 1)
unfolding party_of
none_forged w rest same sent f b ok ad x k okx =
    claim_was_sent w.sent (subst (λ (l : List Sent). Among proposal_sent l) (sym sent) (inl refl)) x
    (subst (λ (g : Frame). Among x (accepted_tags (self_of start 1) g)) (same-frame w rest f sent b)
    (subst (λ (i : Identity). Among x (accepted_tags i f)) same k))

-- the digests of the two cores begin with other bytes
genesis_first : get_or (digest genesis_core) 0 0 ≡ 120
unfolding of_steps
genesis_first = refl

block_first : get_or (digest_of example.block1) 0 0 ≡ 91
unfolding of_steps
block_first = refl

digests_apart : digest genesis_core ≡ digest_of example.block1 → ⊥
digests_apart e = let k = ap (λ (l : Bytes). get_or l 0 0) e in omega (arith, k, genesis_first, block_first)

-- a core of the run is genesis's or the block's
IsOneOfTwo : Core → Type 0
IsOneOfTwo c = (c ≡ genesis_core) ⊎ (c ≡ core_of example.block1)

proposed_core : (c : Core) (f : Frame) → f ≡ example.proposed → CoreOf c f → IsOneOfTwo c
unfolding proposal_frame IsOneOfTwo
proposed_core c f e o = inr (subst (CoreOf c) e o)

sent_core : (c : Core) (s : Sent) → Among s (after start example.schedule).sent → CoreOf c s.frame
    → IsOneOfTwo c
unfolding vote_frame
sent_core c s m o =
    elim (subst (λ (l : List Sent). Among s l) sends m) [
      | inl e ↦ proposed_core c s.frame (ap (λ (x : Sent). x.frame) e) o
      | inr k ↦
          (elim k [ inl e ↦ absurd (subst (CoreOf c) (ap (λ (x : Sent). x.frame) e) o) | inr n ↦ absurd n ])
    ]

not_brought : (f : Frame) → Among f (brought start (beat 0)) → ⊥
unfolding brought
not_brought f b = b

brought_core : (c : Core) → CoreBrought c start example.schedule → IsOneOfTwo c
unfolding after
brought_core c (inl x) = absurd (not_brought x.0 x.1)
brought_core c (inr (inl x)) = proposed_core c x.0 (same-frame _ _ x.0 after_beat x.1) x.2
brought_core c (inr (inr (inl x))) = proposed_core c x.0 (same-frame _ _ x.0 after_vote x.1) x.2
brought_core c (inr (inr (inr n))) = absurd n

run_core : (c : Core) → CoreOfRun start example.schedule c → IsOneOfTwo c
unfolding IsOneOfTwo
run_core c (inl e) = inl e
run_core c (inr (inl x)) = sent_core c x.0 x.1 x.2
run_core c (inr (inr x)) = brought_core c x

two_apart : (a b : Core) → IsOneOfTwo a → IsOneOfTwo b → digest a ≡ digest b → a ≡ b
unfolding IsOneOfTwo digest_of core_of
two_apart a b (inl e) (inl f) h = e ∙ sym f
two_apart a b (inl e) (inr f) h = absurd (digests_apart (sym (ap digest e) ∙ (h ∙ ap digest f)))
two_apart a b (inr e) (inl f) h = absurd (digests_apart (sym (ap digest f) ∙ (sym h ∙ ap digest e)))
two_apart a b (inr e) (inr f) h = e ∙ sym f

-- the premises hold
pub premises : PremisesHold
unfolding happens after count_below new_world brought
premises = record {
  few = omega arith;
  keys = λ p c. refl;
  read = (tt, (tt, (tt, tt)));
  no_forgery = (
    λ f b. absurd (not_brought f b),
    (
      none_forged (after start ((beat 0, ample) ∷ [])) _ refl after_beat,
      (none_forged (after start ((beat 0, ample) ∷ (relay 0 1, ample) ∷ [])) _ refl after_vote, tt),
    ),
  );
  no_collision = λ a b ka kb. two_apart a b (run_core a ka) (run_core b kb);
}
