-- What each frame is that a step sends.
use Rattle.definitions.proofs.Histories.{numbered-is}
use Rattle.definitions.proofs.Lists.{Among-take, Among-either, Among-map, Among-reverse, find_some}
use Rattle.std.proofs.Common.{ℕ, ◌≡◌, ◌-◌, ◌==◌, ◌&&◌, not, Bool, true, List, [], ◌∷◌, length, cond, refl, sym, subst}
use Rattle.std.proofs.Common.{inl, inr, Option, Some, None, nat_lt, reverse, take}
use Rattle.std.proofs.lemmas.Bool.{cond_both}
use Rattle.definitions.specs.Lists.{Among}
use Rattle.ids.specs.Sizes.{leader}
use Rattle.definitions.specs.Branches.{Branch, branch_eq}
use Rattle.definitions.specs.Histories.{Answer, answers, History, last_seq, last_answer, answer_to}
use Rattle.definitions.specs.Chronicles.{Admitted, Step, Step.took_block, Step.noted, Note.got_vote}
use Rattle.definitions.specs.Chronicles.{Note.got_new_view, Note.got_request, Note.got_fetch}
use Rattle.definitions.specs.Chronicles.{Note.timed_out, Note.beat, Note.pruned, Note.seen_view}
use Rattle.definitions.specs.Chronicles.{Note.led_from, Chronicle, taken_blocks}
use Rattle.definitions.specs.Chronicles.{history}
use Rattle.definitions.specs.Checks.{Identity}
use Rattle.definitions.specs.Bytes.{Bytes}
use Rattle.definitions.specs.Events.{out_of}
use Rattle.definitions.specs.Replicas.{MemorySupply, MemorySupply.ample, MemorySupply.refused_at_once, Replica, Reaction}
use Rattle.definitions.specs.Replicas.{MemorySupply.refused_after, Reaction.fails, Standing, Standing.running}
use Rattle.definitions.specs.Replicas.{Standing.stopped, Standing.cut_short, executes, on_step, on_ruling, step}
use Rattle.definitions.specs.Rulings.{Input, Ruling, Ruling.due, Ruling.missing, Ruling.refusing, ruling, conflicts}
use Rattle.definitions.specs.Sessions.{is_ample}
use Rattle.ids.specs.declared.fault.Fault.TheVariants as fault
use Rattle.definitions.specs.States.{Justified, view, leads, proposed}
use Rattle.definitions.specs.Sendings.{To, To.to_all, To.to_party, Sending, sendings, vote_frame}
use Rattle.definitions.specs.Sendings.{proposal_frame, new_view_frame, reply_to, block_frame, new_replies}
use Rattle.definitions.specs.Sendings.{as_taken, supplies, again, proposes, fetch_frame}

-- the vote for a block, a reply that is new or was given before, the view, a block that was taken, or a
-- proposal
pub data Sends (self : Identity) (st : Step) (c : Chronicle) : Sending → Type 0 where
  its_vote : (a : Admitted) → st ≡ took_block a → a.voted ≡ true → (to : To)
      → Sends self st c (to, vote_frame self a.branch)
  new_reply : (a : Answer) → Among a (answers self.sizes.most_keys (history (st ∷ c)))
      → Sends self st c (reply_to self a)
  old_reply : (a : Answer) → Among a (answers self.sizes.most_keys (history c)) → Sends self st c (reply_to self a)
  its_view : Sends self st c (to_all, new_view_frame self (st ∷ c))
  its_block : (to : ℕ) (a : Admitted) → Among a (taken_blocks c)
      → Sends self st c (to_party to, block_frame self to a)
  its_proposal : (j : Justified) → leads self c ≡ true → proposed self (st ∷ c) ≡ Some j
      → Sends self st c (to_all, proposal_frame self (view self.sizes c) j)

-- what is kept as taken was taken
as_taken-among : (b : Option Branch) (c : Chronicle) (a : Admitted) → as_taken b c ≡ Some a
    → Among a (taken_blocks c)
as_taken-among None c a e = absurd (none e)
  where
    none : None ≡ Some a → ⊥
    none k = cc
as_taken-among (Some b) c a e = (find_some (λ a. branch_eq a.branch b) (taken_blocks c) a e).0

-- a reply that is given again is one of the answers
pub answer_to-among : (most_keys client seq : ℕ) (h : History) (a : Answer)
    → answer_to most_keys client seq h ≡ Some a → Among a (answers most_keys h)
unfolding answer_to last_answer
answer_to-among most_keys client seq h a e =
    (find_some (λ a. a.client == client) (answers most_keys h) a
    (numbered-is seq (last_answer most_keys client h) a e)).0

module _ (self : Identity) (st : Step) (c : Chronicle) where
  -- one frame alone
  only : (p o : Sending) → Sends self st c p → Among o (p ∷ []) → Sends self st c o
  only p o h (inl e) = subst (Sends self st c) (sym e) h
  only p o h (inr m) = absurd m

  -- the replies to what the step executed
  replies-sent : (o : Sending) → Among o (new_replies self st c) → Sends self st c o
  unfolding new_replies
  replies-sent o m =
      let now : List Answer = answers self.sizes.most_keys (history (st ∷ c)) in
      let n : ℕ = length now - length (answers self.sizes.most_keys (history c)) in
      let r = Among-map (reply_to self) (reverse (take n now)) o m in
      subst (Sends self st c) (sym r.2)
      (new_reply r.0 (Among-take n now r.0 (Among-reverse (take n now) r.0 r.1)))

  -- the proposal, where there is one
  proposal-sent : (p : Option Justified) (o : Sending) → leads self c ≡ true → proposed self (st ∷ c) ≡ p
      → Among o (proposes self (view self.sizes c) p) → Sends self st c o
  proposal-sent None o l e m = absurd m
  proposal-sent (Some j) o l e m = only _ o (its_proposal j l e) m

  -- a reply that is given again
  again-sent : (r : Option Answer) (o : Sending)
      → ((a : Answer) → r ≡ Some a → Among a (answers self.sizes.most_keys (history c))) → Among o (again self r)
      → Sends self st c o
  again-sent None o h m = absurd m
  again-sent (Some a) o h m = only _ o (old_reply a (h a refl)) m

  -- a block that was asked for, where it was taken
  block-sent : (to : ℕ) (r : Option Admitted) (o : Sending)
      → ((a : Admitted) → r ≡ Some a → Among a (taken_blocks c)) → Among o (supplies self to r)
      → Sends self st c o
  block-sent to None o h m = absurd m
  block-sent to (Some a) o h m = only _ o (its_block to a (h a refl)) m

  -- what is sent under a condition
  sent-if : (t : Bool) (xs : List Sending) (o : Sending) → (t ≡ true → Among o xs → Sends self st c o)
      → Among o (cond t xs []) → Sends self st c o
  sent-if t xs o h =
      cond_both t xs [] (λ (l : List Sending). Among o l → Sends self st c o) (λ e m. h e m) (λ e m. absurd m)

-- each frame that a step sends
pub sends : (self : Identity) (st : Step) (c : Chronicle) (o : Sending) → Among o (sendings self st c)
    → Sends self st c o
unfolding sendings
sends self (took_block a) c o m =
    elim (Among-either o (cond a.voted
    ((to_party (leader self.sizes (view self.sizes c)), vote_frame self a.branch) ∷ []) [])
    (new_replies self (took_block a) c) m) [
      | inl k ↦ sent-if self (took_block a) c a.voted _ o
          (λ e n. only self (took_block a) c _ o (its_vote a refl e _) n) k
      | inr k ↦ replies-sent self (took_block a) c o k
    ]
sends self (noted (got_vote v t b)) c o m = absurd m
sends self (noted (got_new_view w s q b)) c o m =
    sent-if self (noted (got_new_view w s q b)) c
    (nat_lt (view self.sizes c) (view self.sizes (noted (got_new_view w s q b) ∷ c))) _ o
    (λ e n. only self (noted (got_new_view w s q b)) c _ o its_view n) m
sends self (noted (got_request r)) c o m =
    sent-if self (noted (got_request r)) c (r.seq == last_seq r.client (history c)) _ o
    (λ e n. again-sent self (noted (got_request r)) c (answer_to self.sizes.most_keys r.client r.seq (history c)) o
    (λ a k. answer_to-among self.sizes.most_keys r.client r.seq (history c) a k) n) m
sends self (noted (got_fetch to b)) c o m =
    block-sent self (noted (got_fetch to b)) c to (as_taken b c) o (λ a e. as_taken-among b c a e) m
sends self (noted timed_out) c o m = only self (noted timed_out) c _ o its_view m
sends self (noted (pruned height)) c o m = absurd m
sends self (noted (seen_view w s)) c o m =
    sent-if self (noted (seen_view w s)) c
    (nat_lt (view self.sizes c) (view self.sizes (noted (seen_view w s) ∷ c))) _ o
    (λ e n. only self (noted (seen_view w s)) c _ o its_view n) m
sends self (noted (led_from b)) c o m = absurd m
sends self (noted beat) c o m =
    sent-if self (noted beat) c (leads self c) _ o
    (λ e n. proposal-sent self (noted beat) c (proposed self (noted beat ∷ c)) o e refl n) m

-- ---- what goes out

module _ (self : Identity) (m : MemorySupply) (P : Sending → Type 0) where
  -- P holds of all that goes out, if it holds of what the step sends, and of a question
  step-out : (st : Step) (c : Chronicle) → ((o : Sending) → Among o (sendings self st c) → P o)
      → (o : Sending) → Among o (out_of self m (on_step self m st c).1) → P o
  unfolding on_step
  step-out st c h o = by m
    where
      by : (s : MemorySupply) → Among o (out_of self s (on_step self s st c).1) → P o
      by ample =
          cond_both (conflicts st c) _ _ (λ (x : Replica × Reaction). Among o (out_of self ample x.1) → P o)
          (λ e k. absurd k) (λ e k. h o k)
      by refused_at_once = λ k. absurd k
      by (refused_after n) =
          cond_both (conflicts st c) _ _ (λ (x : Replica × Reaction). Among o (out_of self (refused_after n) x.1) → P o)
          (λ e k. absurd k)
          (λ e. cond_both (executes st c) _ _
          (λ (x : Replica × Reaction). Among o (out_of self (refused_after n) x.1) → P o) (λ f k. absurd k)
          (λ f k. absurd k))

  ruling-out : (v : Ruling) (c : Chronicle)
      → ((st : Step) → v ≡ due st → (o : Sending) → Among o (sendings self st c) → P o)
      → ((to : ℕ) (d : Bytes) → v ≡ missing to d → P (to_party to, fetch_frame self to d))
      → (o : Sending) → Among o (out_of self m (on_ruling self m v c).1) → P o
  unfolding on_ruling
  ruling-out (due st) c h g o k = step-out st c (h st refl) o k
  ruling-out (missing to d) c h g o k =
      cond_both (is_ample m && not (to == self.ring.party)) ((to_party to, fetch_frame self to d) ∷ []) []
      (λ (l : List Sending). Among o l → P o)
      (λ e n. elim n [ inl i ↦ subst P (sym i) (g to d refl) | inr z ↦ absurd z ]) (λ e n. absurd n) k
  ruling-out (refusing n) c h g o k = absurd k

  pub input-out : (i : Input) (r : Replica)
      → ((st : Step) → ruling self i r.chronicle ≡ due st → (o : Sending)
      → Among o (sendings self st r.chronicle) → P o)
      → ((to : ℕ) (d : Bytes) → ruling self i r.chronicle ≡ missing to d → P (to_party to, fetch_frame self to d))
      → (o : Sending) → Among o (out_of self m (step self m i r).1) → P o
  unfolding step
  input-out i r h g o = by r.standing
    where
      by : (s : Standing) → Among o (out_of self m (elim s as (λ x. Replica × Reaction) [
        | running ↦ on_ruling self m (ruling self i r.chronicle) r.chronicle
        | stopped ↦ (r, fails fault.Stopped)
        | cut_short held ↦ (r, fails fault.Stopped)
      ]).1) → P o
      by running k = ruling-out (ruling self i r.chronicle) r.chronicle h g o k
      by stopped k = absurd k
      by (cut_short held) k = absurd k
