-- What a replica stores and sends: votes and commands that came to it, so that what holds of all that come holds of
-- these.
use Rattle.std.proofs.Common.{ℕ, ◌≡◌, true, List, [], ◌∷◌, ◌++◌}
use Rattle.std.proofs.Common.{refl, sym, subst, inl, inr}
use Rattle.std.proofs.Common.{Option, Some, None}
use Rattle.std.specs.Bool.{⊤}
use Rattle.std.specs.List.{list_any, AllByRecursion}
use Rattle.std.proofs.lemmas.Bool.{cond_both, eqb-true}
use Rattle.definitions.specs.Lists.{Among}
use Rattle.definitions.specs.Bytes.{Bytes}
use Rattle.definitions.specs.Branches.{Branch}
use Rattle.definitions.specs.Frames.{Command, Core, Vote, Certificate, Frame, sender_of, content_of}
use Rattle.definitions.specs.Frames.{kind_of, own_tag}
use Rattle.ids.specs.Sizes.{Sizes, client_party}
use Rattle.definitions.specs.Digests.{digest_of, core_of, core_over}
use Rattle.definitions.specs.Chronicles.{Admitted, Step, Step.took_block, Step.noted, Note.got_vote}
use Rattle.definitions.specs.Chronicles.{Note.got_new_view, Note.got_request, Note.got_fetch}
use Rattle.definitions.specs.Chronicles.{Note.timed_out, Note.beat, Note.pruned, Chronicle, taken_blocks}
use Rattle.definitions.specs.Chronicles.{history}
use Rattle.definitions.specs.Checks.{Identity, cut}
use Rattle.definitions.specs.States.{Justified, me, leads, leaf, child, known_as, proposed, made_with}
use Rattle.definitions.specs.States.{qc_high, pending, with_request, is_due}
use Rattle.definitions.specs.States.{is_same_request, picks}
use Rattle.definitions.specs.Rulings.{Input, Input.proposal_in, Input.block_in, Input.vote_in}
use Rattle.definitions.specs.Rulings.{Input.new_view_in, Input.request_in}
use Rattle.definitions.specs.Rulings.{Input.offered_in, Input.relayed_in}
use Rattle.definitions.specs.Chronicles.{Note.seen_view, Note.led_from}
use Rattle.definitions.specs.Sendings.{To, To.to_party, Sending, reply_to, vote_frame, block_frame}
use Rattle.definitions.specs.Sendings.{new_view_frame, proposal_frame}
use Rattle.definitions.proofs.Certificates.{all-filter, all-implied}
use Rattle.definitions.proofs.Cuts.{all-take, all-cut}
use Rattle.definitions.proofs.Chronicles.{taken-now}
use Rattle.linear_law.proofs.HeldVotes.{AllVotes, IsHolding, high-held}
use Rattle.linear_law.proofs.Sends.{Sends, Sends.its_vote, Sends.new_reply, Sends.old_reply, Sends.its_view}
use Rattle.linear_law.proofs.Sends.{Sends.its_block, Sends.its_proposal}
use Rattle.linear_law.proofs.Leaves.{all-after, none-some, child-is}
use Rattle.definitions.specs.Frames as frame

-- ---- what holds of votes and of commands

-- what a frame passes on
abbrev pub Passed : (Bytes → Vote → Type 0) → (Command → Type 0) → Frame → Type 0
Passed IsVote IsCommand (frame.proposal v core q t) = AllByRecursion IsCommand core.commands × AllVotes IsVote q
Passed IsVote IsCommand (frame.block s core q t) = AllByRecursion IsCommand core.commands × AllVotes IsVote q
Passed IsVote IsCommand (frame.new_view v s q t) = AllVotes IsVote q
Passed IsVote IsCommand f = ⊤

-- what it brings: that, or its own vote or command
abbrev pub Brought : (Bytes → Vote → Type 0) → (Command → Type 0) → Frame → Type 0
Brought IsVote IsCommand (frame.vote d b) = IsVote d b
Brought IsVote IsCommand (frame.request k) = IsCommand k
Brought IsVote IsCommand f = Passed IsVote IsCommand f

-- a reply goes to its client, a question or a copy of a block to one party
abbrev pub IsAddressed : To → Frame → Type 0
IsAddressed to (frame.reply r c s p t g) = to ≡ to_party (client_party c)
IsAddressed to (frame.fetch s d t) = (p : ℕ) × (to ≡ to_party p)
IsAddressed to (frame.block s core q t) = (p : ℕ) × (to ≡ to_party p)
IsAddressed to f = ⊤

-- what goes out is in its sender's own name and for whom it may be, and passes on what came
abbrev pub IsOwnOut : (Bytes → Vote → Type 0) → (Command → Type 0) → Identity → Sending → Type 0
IsOwnOut IsVote IsCommand self o =
    (me self ≡ sender_of self.sizes o.1) × Passed IsVote IsCommand o.1 × IsAddressed o.0 o.1

-- what an input brings
abbrev pub IsMadeInput : (Bytes → Vote → Type 0) → (Command → Type 0) → Input → Type 0
IsMadeInput IsVote IsCommand (proposal_in w core q f) = AllByRecursion IsCommand core.commands × AllVotes IsVote q
IsMadeInput IsVote IsCommand (block_in s core q f) = AllByRecursion IsCommand core.commands × AllVotes IsVote q
IsMadeInput IsVote IsCommand (vote_in d b) = IsVote d b
IsMadeInput IsVote IsCommand (new_view_in w s q) = AllVotes IsVote q
IsMadeInput IsVote IsCommand (request_in k) = IsCommand k
IsMadeInput IsVote IsCommand (offered_in w s core q f) = AllByRecursion IsCommand core.commands
IsMadeInput IsVote IsCommand (relayed_in ss core q f) = AllByRecursion IsCommand core.commands
IsMadeInput IsVote IsCommand i = ⊤

-- what a step stores
abbrev pub IsMade : (Bytes → Vote → Type 0) → (Command → Type 0) → Step → Type 0
IsMade IsVote IsCommand (took_block a) =
    (a.new ≡ true → AllByRecursion IsCommand (core_of a.branch).commands) × AllVotes IsVote a.certificate
IsMade IsVote IsCommand (noted (got_vote voter v b)) = IsVote (digest_of b) (record { voter = voter; vector = v })
IsMade IsVote IsCommand (noted (got_new_view w s q b)) = AllVotes IsVote q
IsMade IsVote IsCommand (noted (got_request k)) = IsCommand k
IsMade IsVote IsCommand st = ⊤

abbrev pub AreMade : (Bytes → Vote → Type 0) → (Command → Type 0) → Chronicle → Type 0
AreMade IsVote IsCommand c = AllByRecursion (IsMade IsVote IsCommand) c

-- ---- what holds of more

module _ (IsVote More : Bytes → Vote → Type 0) (IsCommand Further : Command → Type 0)
    (votes : (d : Bytes) (b : Vote) → IsVote d b → More d b) (commands : (k : Command) → IsCommand k → Further k)
  where
    votes-more : (q : Certificate) → AllVotes IsVote q → AllVotes More q
    votes-more q h = all-implied (IsVote q.digest) (More q.digest) (votes q.digest) q.votes h

    commands-more : (ks : List Command) → AllByRecursion IsCommand ks → AllByRecursion Further ks
    commands-more ks h = all-implied IsCommand Further commands ks h

    pub passed-more : (f : Frame) → Passed IsVote IsCommand f → Passed More Further f
    passed-more (frame.proposal v core q t) h = (commands-more core.commands h.0, votes-more q h.1)
    passed-more (frame.block s core q t) h = (commands-more core.commands h.0, votes-more q h.1)
    passed-more (frame.new_view v s q t) h = votes-more q h
    passed-more (frame.request c) h = tt
    passed-more (frame.vote d b) h = tt
    passed-more (frame.reply r c s p t g) h = tt
    passed-more (frame.fetch s d t) h = tt

    step-more : (st : Step) → IsMade IsVote IsCommand st → IsMade More Further st
    step-more (took_block a) h =
        (λ n. commands-more (core_of a.branch).commands (h.0 n), votes-more a.certificate h.1)
    step-more (noted (got_vote voter v b)) h = votes (digest_of b) (record { voter = voter; vector = v }) h
    step-more (noted (got_new_view w s q b)) h = votes-more q h
    step-more (noted (got_request k)) h = commands k h
    step-more (noted (got_fetch to b)) h = tt
    step-more (noted timed_out) h = tt
    step-more (noted beat) h = tt
    step-more (noted (pruned height)) h = tt
    step-more (noted (seen_view w s)) h = tt
    step-more (noted (led_from b)) h = tt

    pub made-more : (c : Chronicle) → AreMade IsVote IsCommand c → AreMade More Further c
    made-more c h = all-implied (IsMade IsVote IsCommand) (IsMade More Further) step-more c h

-- ---- what a chronicle keeps

module _ (IsVote : Bytes → Vote → Type 0) (IsCommand : Command → Type 0) where
  -- its votes are held
  made-holding : (st : Step) → IsMade IsVote IsCommand st → IsHolding IsVote st
  made-holding (took_block a) h = h.1
  made-holding (noted (got_vote voter v b)) h = h
  made-holding (noted (got_new_view w s q b)) h = h
  made-holding (noted (got_request k)) h = tt
  made-holding (noted (got_fetch to b)) h = tt
  made-holding (noted timed_out) h = tt
  made-holding (noted beat) h = tt
  made-holding (noted (pruned height)) h = tt
  made-holding (noted (seen_view w s)) h = tt
  made-holding (noted (led_from b)) h = tt

  pub high-made : (s : Sizes) (c : Chronicle) → AreMade IsVote IsCommand c → AllVotes IsVote (qc_high s c).certificate
  high-made s c h = high-held IsVote s c
      (all-implied (IsMade IsVote IsCommand) (IsHolding IsVote) made-holding c h)

  with_request-made : (st : Step) (ps : List Command) → IsMade IsVote IsCommand st → AllByRecursion IsCommand ps
      → AllByRecursion IsCommand (with_request st ps)
  with_request-made (noted (got_request r)) ps h all =
      cond_both (list_any (is_same_request r) ps) ps (ps ++ r ∷ []) (AllByRecursion IsCommand) (λ e. all)
      (λ e. all-after IsCommand ps r all h)
  with_request-made (took_block a) ps h all = all
  with_request-made (noted n) ps h all = all

  pending-made : (c : Chronicle) → AreMade IsVote IsCommand c → AllByRecursion IsCommand (pending c)
  unfolding pending
  pending-made [] h = tt
  pending-made (noted (led_from b) ∷ c) h = tt
  pending-made (st ∷ c) h = all-filter IsCommand (is_due (history (st ∷ c)))
      (with_request st (pending c)) (with_request-made st (pending c) h.0 (pending-made c h.1))

  picks-made : (c : Chronicle) (on : Branch) → AreMade IsVote IsCommand c → AllByRecursion IsCommand (picks c on)
  unfolding picks
  picks-made c on h =
      all-take IsCommand 16 _ (all-filter IsCommand _ (pending c) (pending-made c h))

  abbrev IsMadeProposal : Justified → Type 0
  IsMadeProposal j = AllByRecursion IsCommand (core_of j.block).commands × AllVotes IsVote j.certificate

  proposed-made : (self : Identity) (c : Chronicle) (j : Justified) → AreMade IsVote IsCommand c
      → proposed self c ≡ Some j → IsMadeProposal j
  unfolding proposed core_of core_over
  proposed-made self [] j h e = absurd (none-some j e)
  proposed-made self (noted beat ∷ c) j h e =
      by (λ f. proposed-made self c j h.1 f) (child self c (leaf self c)) refl e
    where
      by : (proposed self c ≡ Some j → IsMadeProposal j) → (o : Option Branch)
          → child self c (leaf self c) ≡ o
          → made_with o (qc_high self.sizes c).certificate (proposed self c) ≡ Some j → IsMadeProposal j
      by old None i f = old f
      by old (Some b) i f =
          let is : record { block = b; certificate = (qc_high self.sizes c).certificate } ≡ j = cc in
          let k = (child-is self c (leaf self c) b i).is in
          subst IsMadeProposal is (
            subst (λ (x : Branch). AllByRecursion IsCommand (core_of x).commands) (sym k)
                (picks-made c (known_as (leaf self c) c) h.1),
            high-made self.sizes c h.1,
          )
  proposed-made self (took_block a ∷ c) j h e = proposed-made self c j h.1 e
  proposed-made self (noted n ∷ c) j h e = proposed-made self c j h.1 e

  taken-made : (c : Chronicle) (a : Admitted) → AreMade IsVote IsCommand c → Among a (taken_blocks c)
      → AllByRecursion IsCommand (core_of a.branch).commands × AllVotes IsVote a.certificate
  unfolding taken_blocks
  taken-made [] a h m = absurd m
  taken-made (st ∷ c) a h m =
      elim (taken-now st c a m) [
        | inl now ↦ (let s = subst (IsMade IsVote IsCommand) now.0 h.0 in (s.0 now.1, s.1))
        | inr k ↦ taken-made c a h.1 k
      ]

  -- the votes of a certificate that is passed on are among its own
  cut-made : (self : Identity) (q : Certificate) → AllVotes IsVote q → AllVotes IsVote (cut self q)
  unfolding cut
  cut-made self q h = all-cut (IsVote q.digest) self q h

  -- so is what a step sends
  pub sends-made : (self : Identity) (st : Step) (c : Chronicle) (o : Sending) → AreMade IsVote IsCommand (st ∷ c)
      → Sends self st c o → IsOwnOut IsVote IsCommand self o
  unfolding vote_frame reply_to new_view_frame block_frame proposal_frame leads
  sends-made self st c o h (its_vote a e v to) = (refl, tt, tt)
  sends-made self st c o h (new_reply a m) = (refl, tt, refl)
  sends-made self st c o h (old_reply a m) = (refl, tt, refl)
  sends-made self st c o h its_view =
      (refl, cut-made self (qc_high self.sizes (st ∷ c)).certificate (high-made self.sizes (st ∷ c) h), tt)
  sends-made self st c o h (its_block to a m) =
      let k = taken-made c a h.1 m in (refl, (k.0, cut-made self a.certificate k.1), (to, refl))
  sends-made self st c o h (its_proposal j l e) =
      let k = proposed-made self (st ∷ c) j h e in
      (sym (eqb-true _ _ l), (k.0, cut-made self j.certificate k.1), tt)
