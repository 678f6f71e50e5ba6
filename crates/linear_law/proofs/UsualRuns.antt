-- Runs without offers, copies of blocks, leads and questions: each block was taken by a good certificate, and
-- the highest one is the first of the greatest height.
use Rattle.ids.specs.declared.limits.TheConstants.{MOST_BLOCKS}
use Rattle.std.proofs.Common.{ℕ, ◌≡◌, ◌<◌, ◌≤◌, ◌&&◌, ◌==◌, not, Bool, true, List, [], ◌∷◌, length, map}
use Rattle.std.proofs.Common.{filter, nat_lt, refl, sym, ap, subst, ◌∙◌, arith, inl, inr, Option, Some, None, Ok}
use Rattle.std.specs.Prelude.{IfSome}
use Rattle.std.specs.Bool.{⊤}
use Rattle.std.specs.List.{list_any, AllByRecursion}
use Rattle.std.proofs.lemmas.Bool.{and_parts, cond_both, cases_Bool, cond-true, eqb-true, leb-true, cond-false}
use Rattle.ids.specs.Sizes.{Sizes, quorum}
use Rattle.definitions.specs.Lists.{Among}
use Rattle.definitions.specs.Bytes.{Bytes}
use Rattle.definitions.specs.Frames.{Command, Core, Vote, Certificate, Frame, genesis_core}
use Rattle.definitions.specs.Branches.{Branch}
use Rattle.definitions.specs.Digests.{digest_of, AllKnown, NoCollision}
use Rattle.definitions.specs.Keyrings.{Keyring}
use Rattle.definitions.specs.Trees.{Placing, Placing.stands, Placing.grows, Placing.lacks_parent}
use Rattle.definitions.specs.Trees.{Placing.unfit, placing}
use Rattle.definitions.specs.Chronicles.{Admitted, Step, Step.took_block, Step.noted, Note.got_vote}
use Rattle.definitions.specs.Chronicles.{Note.got_new_view, Note.got_request, Note.got_fetch}
use Rattle.definitions.specs.Chronicles.{Note.timed_out, Note.beat, Note.pruned, Note.seen_view}
use Rattle.definitions.specs.Chronicles.{Note.led_from, Chronicle, taken_blocks, tree, AreKnown, history}
use Rattle.definitions.specs.Chronicles.{horizon, window}
use Rattle.definitions.specs.Branches.{just1}
use Rattle.definitions.specs.Checks.{Identity, Findings, is_good, is_genesis, vote_verifies, counted_voters}
use Rattle.definitions.specs.States.{votes, Justified, raised, is_due, pending, is_same_request}
use Rattle.definitions.specs.Rulings.{Input, Input.proposal_in, Input.block_in, Input.vote_in}
use Rattle.definitions.specs.Rulings.{Input.new_view_in, Input.request_in, Input.fetch_in, Input.timeout_in}
use Rattle.definitions.specs.Rulings.{Input.beat_in, Input.prune_in, Input.offered_in, Input.relayed_in}
use Rattle.definitions.specs.Rulings.{Input.lead_in, Input.ask_in, Input.view_in, Ruling, Ruling.due}
use Rattle.definitions.specs.Rulings.{admitted, on_placing, on_request, with_block, ruling}
use Rattle.definitions.specs.Replicas.{MemorySupply, Replica, Reaction, step}
use Rattle.definitions.specs.Worlds.{World, Event, Happening, self_of, new_world}
use Rattle.definitions.specs.Events.{Effect, nothing, stepped, told, submitted, party_of, effect, happens}
use Rattle.definitions.specs.Runs.{refusal, run}
use Rattle.definitions.specs.Admission.{Checked.passes, check}
use Rattle.definitions.specs.Frames as frame
use Rattle.definitions.proofs.Branches.{just1-extends}
use Rattle.definitions.proofs.Certificates.{length-by_voter}
use Rattle.definitions.proofs.Checks.{when-good}
use Rattle.definitions.proofs.Chronicles.{tree-grows, taken-tree}
use Rattle.definitions.proofs.Digests.{digest_of-one, all_known-below}
use Rattle.definitions.proofs.Sound.{Outcome, Outcome.unchanged, Outcome.refused, Outcome.lacks}
use Rattle.definitions.proofs.Sound.{Outcome.conflict, Outcome.stood, Outcome.cut, step-outcome}
use Rattle.definitions.proofs.Trees.{same_bytes}
use Rattle.linear_law.proofs.Inputs.{AllStanding}
use Rattle.linear_law.proofs.Offers.{not_mine}
use Rattle.linear_law.proofs.Effects.{is_member, Arises, Arises.of_checked, Arises.of_offer}
use Rattle.linear_law.proofs.Effects.{Arises.of_gathered, Arises.of_timeout, Arises.of_beat}
use Rattle.linear_law.proofs.Effects.{Arises.of_prune, Arises.of_lead, Arises.of_ask, Effects, Effects.idle}
use Rattle.linear_law.proofs.Effects.{Effects.step_by, Effects.hearing, Effects.submitting, effects}
use Rattle.linear_law.proofs.Rows.{put_row-both}
use Rattle.linear_law.proofs.Runs.{chronicles, IsRun, arises-checked, put-chronicle}
use Rattle.linear_law.proofs.StoredFrames.{AreStored}
use Rattle.linear_law.proofs.Linear.{ground, run-step}
use Rattle.linear_law.proofs.WholeRuns.{IsAssumed, AssumedAlong, IsWell, well-happens, comes-framed, KnownIn}
use Rattle.linear_law.proofs.WholeRuns.{new-sizes, new-well, known-apart, known-genesis, known-along}
use Rattle.linear_law.proofs.AsBefore.{highest}
use Rattle.linear_law.specs.AsBefore.{IsUsual, HasVotes, NoneLeads, IsUsualStep}
use Rattle.linear_law.specs.AsBefore.{UsualRunsAreJudgedAsBefore}

-- ---- steps

-- an input that brings no block on grounds, no lead and no view without its certificate
abbrev IsUsualInput : Identity → Input → Type 0
IsUsualInput self (proposal_in w core q f) = is_good self q ≡ true
IsUsualInput self (block_in s core q f) = is_good self q ≡ true
IsUsualInput self (offered_in w s core q f) = ⊥
IsUsualInput self (relayed_in ss core q f) = ⊥
IsUsualInput self (lead_in d) = ⊥
IsUsualInput self (view_in w s) = ⊥
IsUsualInput self i = ⊤

check-usual : (self : Identity) (f : Frame) (i : Input) → check self f ≡ passes i → IsUsualInput self i
unfolding check
check-usual self (frame.proposal view core q v) i e =
    let g = when-good _ _ _ e in subst (IsUsualInput self) g.1 (and_parts _ _ g.0).1
check-usual self (frame.block sender core q t) i e =
    let g = when-good _ _ _ e in subst (IsUsualInput self) g.1 (and_parts _ _ g.0).1
check-usual self (frame.request c) i e = subst (IsUsualInput self) (when-good _ _ _ e).1 tt
check-usual self (frame.vote d b) i e = subst (IsUsualInput self) (when-good _ _ _ e).1 tt
check-usual self (frame.new_view w s q v) i e = subst (IsUsualInput self) (when-good _ _ _ e).1 tt
check-usual self (frame.fetch s d t) i e = subst (IsUsualInput self) (when-good _ _ _ e).1 tt
check-usual self (frame.reply r c s p t g) i e = absurd (not_mine i e)

arises-usual : (w : World) (e : Event) (i : Input) → IsUsual e → Arises w e i
    → IsUsualInput (self_of w (party_of e)) i
arises-usual w e i u (of_checked f j b g) = check-usual (self_of w (party_of e)) f j g
arises-usual w e i u (of_offer f j b g n) = absurd (n u)
arises-usual w e i u (of_gathered j b g n) = absurd (n u)
arises-usual w e i u of_timeout = tt
arises-usual w e i u of_beat = tt
arises-usual w e i u (of_prune height) = tt
arises-usual w e i u (of_lead d n) = absurd (n u)
arises-usual w e i u (of_ask r d h) = tt

placed-usual : (self : Identity) (w : Option ℕ) (sender : ℕ) (core : Core) (q : Certificate) (f : Findings)
    (c : Chronicle) → is_good self q ≡ true → (p : Placing)
    → AllStanding (IsUsualStep self) (on_placing self w sender core q f c p)
unfolding on_placing admitted
placed-usual self w sender core q f c g (stands b) = (g, refl)
placed-usual self w sender core q f c g (grows b) = (g, refl)
placed-usual self w sender core q f c g lacks_parent = tt
placed-usual self w sender core q f c g (unfit n) = tt

vote-usual : (self : Identity) (b : Vote) (d : Bytes) (o : Option Branch)
    → AllStanding (IsUsualStep self) (with_block o b.voter d (λ x. due (noted (got_vote b.voter b.vector x))))
vote-usual self b d None = tt
vote-usual self b d (Some x) = tt

view-usual : (self : Identity) (w r : ℕ) (q : Certificate) (o : Option Branch)
    → AllStanding (IsUsualStep self) (with_block o r q.digest (λ x. due (noted (got_new_view w r q x))))
view-usual self w r q None = tt
view-usual self w r q (Some x) = tt

request-usual : (self : Identity) (r : Command) (c : Chronicle)
    → AllStanding (IsUsualStep self) (on_request r c)
unfolding on_request
request-usual self r c = cond_both (is_due (history c) r
    && (not (list_any (is_same_request r) (pending c)) && not (nat_lt (length (pending c)) 4096))) _ _
    (AllStanding (IsUsualStep self)) (λ e. tt) (λ e. tt)

ruling-usual : (self : Identity) (i : Input) (c : Chronicle) → IsUsualInput self i
    → AllStanding (IsUsualStep self) (ruling self i c)
unfolding ruling
ruling-usual self (proposal_in w core q f) c g =
    placed-usual self _ _ core q f c g (placing (horizon c) MOST_BLOCKS core q (window c))
ruling-usual self (block_in s core q f) c g =
    placed-usual self _ _ core q f c g (placing (horizon c) MOST_BLOCKS core q (window c))
ruling-usual self (vote_in d b) c g = vote-usual self b d _
ruling-usual self (new_view_in w r q) c g = view-usual self w r q _
ruling-usual self (request_in r) c g = request-usual self r c
ruling-usual self (fetch_in r d) c g = tt
ruling-usual self timeout_in c g = tt
ruling-usual self beat_in c g = tt
ruling-usual self (prune_in height) c g = tt
ruling-usual self (offered_in w s core q f) c g = absurd g
ruling-usual self (relayed_in ss core q f) c g = absurd g
ruling-usual self (lead_in d) c g = absurd g
ruling-usual self (ask_in r d) c g = tt
ruling-usual self (view_in w s) c g = absurd g

-- ---- events

-- each step of a replica
abbrev AreUsual : Identity → Chronicle → Type 0
AreUsual self c = AllByRecursion (IsUsualStep self) c

outcome-usual : (self : Identity) (v : Ruling) (before : Replica) (r : Replica × Reaction)
    → AllStanding (IsUsualStep self) v → AreUsual self before.chronicle
    → Outcome self before.chronicle v before r → AreUsual self r.0.chronicle
outcome-usual self v before r f old (unchanged n l) = old
outcome-usual self v before r f old (refused s n u l) = old
outcome-usual self v before r f old (lacks sender d u) = old
outcome-usual self v before r f old (conflict st u x h) = old
outcome-usual self v before r f old (stood st u x h) = (subst (AllStanding (IsUsualStep self)) x f, old)
outcome-usual self v before r f old (cut st n u x h) = (subst (AllStanding (IsUsualStep self)) x f, old)

module _ (Known : Core → Type 0) where
  effect-usual : (w : World) (e : Event) (m : MemorySupply) (f : Effect) → IsRun Known w → IsUsual e
      → Effects w e m f
      → ((p : ℕ) → is_member w p ≡ true → AreUsual (self_of w p) (chronicles w p)) → (p : ℕ)
      → is_member w p ≡ true → AreUsual (self_of w p) (f.replica p).chronicle
  unfolding nothing stepped told submitted
  effect-usual w e m f run u (idle a h) old = old
  effect-usual w e m f run u (step_by i me ar) old = λ p mp.
      let self : Identity = self_of w (party_of e) in
      let r : Replica × Reaction = step self m i (w.replica (party_of e)) in
      subst (AreUsual (self_of w p)) (put-chronicle (party_of e) r.0 w.replica p)
      (put_row-both (AreUsual (self_of w p)) (party_of e) r.0.chronicle (chronicles w) p
      (λ x. subst (λ (n : ℕ). AreUsual (self_of w n) r.0.chronicle) (sym x)
      (outcome-usual self (ruling self i (chronicles w (party_of e))) (w.replica (party_of e)) r
      (ruling-usual self i (chronicles w (party_of e)) (arises-usual w e i u ar)) (old (party_of e) me)
      (step-outcome self m i (w.replica (party_of e)) (arises-checked w e i ar)
      (run.row.sound (party_of e) me))))
      (old p mp))
  effect-usual w e m f run u (hearing g b ad r ok pa) old = old
  effect-usual w e m f run u (submitting c payload i ok) old = old

  happens-usual : (w : World) (h : Happening) → IsWell Known w → IsAssumed Known w h → IsUsual h.0
      → refusal w h.0 ≡ None
      → ((p : ℕ) → is_member w p ≡ true → AreUsual (self_of w p) (chronicles w p)) → (p : ℕ)
      → is_member w p ≡ true → AreUsual (self_of w p) (chronicles (happens w h) p)
  unfolding happens
  happens-usual w h g a u ok old = effect-usual w h.0 h.1 (effect w h) g.good.run u
      (effects w h.0 h.1 (comes-framed w h.0 a.read g.framed.sent) ok) old

-- what is known of a world of such a run
record IsUsualWorld (Known : Core → Type 0) (w : World) : Type 0 where
  well : IsWell Known w
  usual : (p : ℕ) → is_member w p ≡ true → AreUsual (self_of w p) (chronicles w p)

module _ (Known : Core → Type 0) (apart : NoCollision Known) (genesis : Known genesis_core) where
  run-usual : (hs : List Happening) (w last : World) → IsUsualWorld Known w → AssumedAlong Known w hs
      → AllByRecursion (λ h. IsUsual h.0) hs → run w hs ≡ Ok last → IsUsualWorld Known last
  unfolding run happens
  run-usual [] w last g a u e = let k : w ≡ last = cc in subst (IsUsualWorld Known) k g
  run-usual (h ∷ hs) w last g a u e =
      let r = run-step (refusal w h.0) (run (happens w h) hs) last e in
      run-usual hs (happens w h) last (record {
        well = well-happens Known apart genesis w h g.well a.0 r.0;
        usual = happens-usual Known w h g.well a.0 u.0 r.0 g.usual;
      }) a.1 u.1 r.1

  -- ---- the highest certificate

  -- a known block with genesis's digest is genesis
  genesis-alone : (b : Branch) → AllKnown Known b → is_genesis (digest_of b) ≡ true → b ≡ []
  unfolding digest_of
  genesis-alone b k g = digest_of-one Known apart genesis ground b [] k tt (same_bytes _ _ g)

  -- a quorum is some votes
  quorum-votes : (self : Identity) (d : Bytes) (bs : List Vote)
      → quorum self.sizes ≤ length (map (λ b. b.voter) (filter (vote_verifies self d) bs)) → 0 < length bs
  quorum-votes self d [] h = absurd (omega (arith, h))
  quorum-votes self d (b ∷ bs) h = omega arith

  -- a good certificate of a known block above genesis has votes
  good-votes : (self : Identity) (q : Certificate) (b : Branch) → AllKnown Known b → is_good self q ≡ true
      → q.digest ≡ digest_of b → 0 < length b → 0 < length q.votes
  unfolding is_good counted_voters
  good-votes self q b k g e above = elim (cases_Bool (is_genesis q.digest)) [
    | inl t ↦ absurd (let n = genesis-alone b k (subst (λ (d : Bytes). is_genesis d ≡ true) e t) in
        let l = ap (λ (x : Branch). length x) n in omega (arith, l, above))
    | inr f ↦ quorum-votes self q.digest q.votes (leb-true _ _ (sym (cond-false _ _ _ f) ∙ g))
  ]

  -- what a usual step brings has votes
  raised-votes : (self : Identity) (st : Step) (c : Chronicle) → AreStored self (st ∷ c)
      → IsUsualStep self st → AreKnown (st ∷ c)
      → ((b : Branch) → Among b (tree (st ∷ c)) → AllKnown Known b)
      → IfSome (raised self.sizes st c) HasVotes
  unfolding raised taken_blocks
  raised-votes self (took_block a) c h u k known =
      cond_both a.new _ _ (λ (o : Option Justified). IfSome o HasVotes)
      (λ n above. good-votes self a.certificate (just1 a.branch)
      (all_known-below Known a.branch (just1 a.branch)
      (known a.branch (taken-tree (took_block a ∷ c) a (now a c n)))
      (just1-extends a.branch)) u.0 h.0.justified above)
      (λ n. tt)
    where
      now : (a : Admitted) (c : Chronicle) → a.new ≡ true → Among a (taken_blocks (took_block a ∷ c))
      now a c n = subst (Among a) (sym (cond-true _ _ _ n)) (inl refl)
  raised-votes self (noted (got_vote voter v b)) c h u k known =
      cond_both (nat_lt (length (votes self.sizes b c)) (quorum self.sizes)
      && (length (votes self.sizes b (noted (got_vote voter v b) ∷ c)) == quorum self.sizes)) _ _
      (λ (o : Option Justified). IfSome o HasVotes)
      (λ e above. let n : length (votes self.sizes b (noted (got_vote voter v b) ∷ c)) ≡ quorum self.sizes =
      eqb-true _ _ (and_parts _ _ e).1 in
      let l = length-by_voter (votes self.sizes b (noted (got_vote voter v b) ∷ c)) in omega (arith, n, l))
      (λ e. tt)
  raised-votes self (noted (got_new_view w r q b)) c h u k known = λ above.
      good-votes self q b (known b (tree-grows (noted (got_new_view w r q b)) c b k.0)) h.0.good h.0.justified
      above
  raised-votes self (noted (got_request r)) c h u k known = tt
  raised-votes self (noted (got_fetch to b)) c h u k known = tt
  raised-votes self (noted timed_out) c h u k known = tt
  raised-votes self (noted beat) c h u k known = tt
  raised-votes self (noted (pruned height)) c h u k known = tt
  raised-votes self (noted (seen_view w s)) c h u k known = tt
  raised-votes self (noted (led_from b)) c h u k known = tt

  -- the blocks of earlier votes and certificates were known too
  known-rest : (st : Step) (c : Chronicle) → AreKnown (st ∷ c) → AreKnown c
  known-rest (took_block a) c k = k
  known-rest (noted (got_vote voter v b)) c k = k.1
  known-rest (noted (got_new_view w r q b)) c k = k.1
  known-rest (noted (got_request r)) c k = k
  known-rest (noted (got_fetch to b)) c k = k
  known-rest (noted timed_out) c k = k
  known-rest (noted beat) c k = k
  known-rest (noted (pruned height)) c k = k
  known-rest (noted (seen_view w s)) c k = k
  known-rest (noted (led_from b)) c k = k.1

  none-leads : (self : Identity) (c : Chronicle) → AreStored self c → AreUsual self c → AreKnown c
      → ((b : Branch) → Among b (tree c) → AllKnown Known b) → NoneLeads self.sizes c
  none-leads self [] h u k known = tt
  none-leads self (st ∷ c) h u k known = (
    λ b e. subst (IsUsualStep self) e u.0,
    raised-votes self st c h u.0 k known,
    none-leads self c h.1 u.1 (known-rest st c k) (λ b m. known b (tree-grows st c b m)),
  )

-- the world at its start
new-usual : (sizes : Sizes) (is_faulty : ℕ → Bool) (ring : ℕ → Keyring) (p : ℕ)
    → is_member (new_world sizes is_faulty ring) p ≡ true
    → AreUsual (self_of (new_world sizes is_faulty ring) p) (chronicles (new_world sizes is_faulty ring) p)
unfolding new_world
new-usual sizes is_faulty ring p n = tt

-- the law
pub judged-as-before : UsualRunsAreJudgedAsBefore
judged-as-before sizes is_faulty ring hs last met u e i m =
    let w : World = new_world sizes is_faulty ring in
    let Known : Core → Type 0 = KnownIn sizes w hs in
    let apart : NoCollision Known = known-apart sizes w hs met in
    let r : IsUsualWorld Known last =
    run-usual Known apart (known-genesis sizes w hs) hs w last
    (record { well = new-well sizes is_faulty ring hs met; usual = new-usual sizes is_faulty ring })
    (known-along sizes w hs (new-sizes sizes is_faulty ring) met) u e in
    let row = r.well.good.run.row in
    record {
      steps = r.usual i m;
      highest = (highest last.sizes (chronicles last i) (none-leads Known apart (known-genesis sizes w hs)
          (self_of last i) (chronicles last i) (r.well.framed.stored i m) (r.usual i m) (row.sound i m).known
          (row.known i m))).0;
    }
