-- Healing forges nothing: its events bring recorded frames to whom they were sent, and nothing else.
use Rattle.std.proofs.Common.{ℕ, zero, suc, ◌≡◌, ◌==◌, Bool, true, false, cond, not, List, [], ◌∷◌, ◌++◌, map}
use Rattle.std.proofs.Common.{drop, length, refl, sym, ap, subst, ◌∙◌, inl, inr, Some, slice_get, arith}
use Rattle.std.specs.List.{AllByRecursion}
use Rattle.std.proofs.lemmas.Bool.{and_parts, lt-ltb, true≢false}
use Rattle.std.proofs.Math.Seq.{drop-append_seam}
use Rattle.ids.specs.Sizes.{Sizes, replicas}
use Rattle.definitions.specs.Lists.{Among}
use Rattle.definitions.specs.Branches.{Branch}
use Rattle.definitions.specs.Bytes.{Bytes}
use Rattle.definitions.specs.Digests.{digest_of}
use Rattle.definitions.specs.Frames.{Command, Frame}
use Rattle.definitions.specs.Frames as frame
use Rattle.definitions.specs.Keyrings.{is_replica_of}
use Rattle.definitions.specs.Premises.{IsFor, IsReadIn, NoForgery}
use Rattle.definitions.specs.Sendings.{To, To.to_party}
use Rattle.definitions.specs.Worlds.{World, Sent, Event.beat, Event.relay, Event.lead, Event.ask}
use Rattle.definitions.specs.Worlds.{Event.gather, Source.of_record, Happening, is_replica, new_world}
use Rattle.definitions.specs.Events.{happens}
use Rattle.definitions.specs.Runs.{after}
use Rattle.definitions.proofs.Lists.{Among-filter}
use Rattle.linear_law.proofs.Deliveries.{IsPassedOn, new-passed}
use Rattle.linear_law.proofs.Made.{IsAddressed}
use Rattle.recovery.specs.Correct.{correct_replicas}
use Rattle.recovery.specs.Healing.{Phase, in_turn, sent_since, is_proposal, is_vote, is_question, is_copy, is_reply}
use Rattle.recovery.specs.Healing.{receivers, timeouts, waits_until, come_to, highest_locked, over_lock}
use Rattle.recovery.specs.Healing.{newcomers, make_first, ask_one, ask_each, fetch_block, lacking, fetch_for_all}
use Rattle.recovery.specs.Healing.{fetch_all, make_block, make_blocks, others, burst, round, rounds}
use Rattle.recovery.specs.Healing.{lead_with, ask_again, agree_on, heal}
use Rattle.recovery.specs.Inventions.{HealingForgesNothing, RunsAreHealed}
use Rattle.recovery.proofs.Asking.{GoesBack, back-each}
use Rattle.recovery.proofs.Correct.{among-correct, highest-locked}
use Rattle.recovery.proofs.Fetched.{all-both}
use Rattle.recovery.proofs.Handed.{IsThere, MayCome, AllHanded, handed-both, handed-passed, handed-forges}
use Rattle.recovery.proofs.Handed.{handed-read, all-come, since-hold, deliveries-hold, comes-come, offered-come}
use Rattle.recovery.proofs.Handed.{sources-there}
use Rattle.recovery.proofs.Inventions.{run-passed}
use Rattle.recovery.proofs.Offers.{sent-later}
use Rattle.recovery.proofs.Requests.{sent-after}
use Rattle.recovery.proofs.Wedged.{never-wedged}
use Rattle.recovery.proofs.Worlds.{made-after}
use Rattle.recovery.proofs.Wells.{run-after}

-- ---- for whom frames are

proposal-for : (p : ℕ) (to : To) (f : Frame) → is_proposal f ≡ true → IsFor p to f
unfolding is_proposal
proposal-for p to (frame.proposal v core q t) o = tt
proposal-for p to (frame.vote d b) o = tt
proposal-for p to (frame.new_view v r q t) o = tt
proposal-for p to (frame.request c) o = tt
proposal-for p to (frame.block r core q t) o = absurd (true≢false (sym o))
proposal-for p to (frame.fetch r d t) o = absurd (true≢false (sym o))
proposal-for p to (frame.reply r c q x t g) o = absurd (true≢false (sym o))

vote-for : (p : ℕ) (to : To) (f : Frame) → is_vote f ≡ true → IsFor p to f
unfolding is_vote
vote-for p to (frame.proposal v core q t) o = tt
vote-for p to (frame.vote d b) o = tt
vote-for p to (frame.new_view v r q t) o = tt
vote-for p to (frame.request c) o = tt
vote-for p to (frame.block r core q t) o = absurd (true≢false (sym o))
vote-for p to (frame.fetch r d t) o = absurd (true≢false (sym o))
vote-for p to (frame.reply r c q x t g) o = absurd (true≢false (sym o))

copy-for : (u : ℕ) (to : To) (f : Frame) → is_copy f ≡ true → GoesBack u to f → IsFor u to f
unfolding is_copy
copy-for u to (frame.block r core q t) o g = g
copy-for u to (frame.proposal v core q t) o g = tt
copy-for u to (frame.vote d b) o g = tt
copy-for u to (frame.new_view v r q t) o g = tt
copy-for u to (frame.request c) o g = tt
copy-for u to (frame.fetch r d t) o g = absurd (true≢false (sym o))
copy-for u to (frame.reply r c q x t y) o g = absurd (true≢false (sym o))

-- what goes to one party is received by it
one-receiver : (w : World) (to : To) (p q : ℕ) → to ≡ to_party p → Among q (receivers w to) → q ≡ p
unfolding receivers
one-receiver w to p q e m =
    elim (subst (λ (t : To). Among q (receivers w t)) e m) [ inl i ↦ i | inr z ↦ absurd z ]

question-for : (w : World) (q : ℕ) (to : To) (f : Frame) → is_question f ≡ true → IsAddressed to f
    → Among q (receivers w to) → IsFor q to f
unfolding is_question
question-for w q to (frame.fetch r d t) o a m = a.1 ∙ ap to_party (sym (one-receiver w to a.0 q a.1 m))
question-for w q to (frame.block r core x t) o a m = absurd (true≢false (sym o))
question-for w q to (frame.proposal v core x t) o a m = absurd (true≢false (sym o))
question-for w q to (frame.vote d b) o a m = absurd (true≢false (sym o))
question-for w q to (frame.new_view v r x t) o a m = absurd (true≢false (sym o))
question-for w q to (frame.request c) o a m = absurd (true≢false (sym o))
question-for w q to (frame.reply r c x y t g) o a m = absurd (true≢false (sym o))

reply-for : (w : World) (q : ℕ) (to : To) (f : Frame) → is_reply f ≡ true → IsAddressed to f
    → Among q (receivers w to) → IsFor q to f
unfolding is_reply
reply-for w q to (frame.reply r c x y t g) o a m = one-receiver w to _ q a m
reply-for w q to (frame.fetch r d t) o a m = absurd (true≢false (sym o))
reply-for w q to (frame.block r core x t) o a m = absurd (true≢false (sym o))
reply-for w q to (frame.proposal v core x t) o a m = absurd (true≢false (sym o))
reply-for w q to (frame.vote d b) o a m = absurd (true≢false (sym o))
reply-for w q to (frame.new_view v r x t) o a m = absurd (true≢false (sym o))
reply-for w q to (frame.request c) o a m = absurd (true≢false (sym o))

-- proposals, and votes, since the record had so many, may come to anybody
proposals-there : (before : ℕ) (w : World) (p : ℕ) → AllByRecursion (λ k. IsThere w k p) (sent_since before is_proposal w)
proposals-there before w p = since-hold before is_proposal w (λ k. IsThere w k p)
    (λ k s e m o. (s, e, proposal-for p s.to s.frame o))

votes-there : (before : ℕ) (w : World) (p : ℕ) → AllByRecursion (λ k. IsThere w k p) (sent_since before is_vote w)
votes-there before w p = since-hold before is_vote w (λ k. IsThere w k p)
    (λ k s e m o. (s, e, vote-for p s.to s.frame o))

among-dropped : (n : ℕ) (xs : List Sent) (s : Sent) → Among s (drop n xs) → Among s xs
among-dropped zero xs s m = m
among-dropped (suc n) [] s m = absurd m
among-dropped (suc n) (x ∷ xs) s m = inr (among-dropped n xs s m)

-- ---- phases

module _ (sizes : Sizes) (k : ℕ) where
  -- a world of these sizes that passes on what holds, and whose frame k is a request
  record IsGood (w : World) : Type 0 where
    passed : IsPassedOn w
    sizes_are : w.sizes ≡ sizes
    sent : Sent
    command : Command
    recorded : slice_get w.sent k ≡ Some sent
    request : sent.frame ≡ frame.request command

  good-after : (w : World) (hs : List Happening) → IsGood w → AllHanded w hs → IsGood (after w hs)
  good-after w hs g h =
      let more = sent-after w hs in
      record {
        passed = handed-passed w hs g.passed h;
        sizes_are = (made-after w hs).sizes ∙ g.sizes_are;
        sent = g.sent;
        command = g.command;
        recorded = ap (λ (l : List Sent). slice_get l k) more.1 ∙ sent-later w.sent more.0 k g.sent g.recorded;
        request = g.request;
      }

  abbrev Hands : Phase → Type 0
  Hands p = (w : World) → IsGood w → AllHanded w (p w)

  turns : (ps : List Phase) → AllByRecursion Hands ps → Hands (in_turn ps)
  unfolding in_turn
  turns [] a w g = tt
  turns (p ∷ ps) a w g =
      handed-both w (p w) (in_turn ps (after w (p w))) (a.0 w g)
      (turns ps a.1 (after w (p w)) (good-after w (p w) g (a.0 w g)))

  each : {A : Type 0} (f : A → Phase) (xs : List A) → ((x : A) → Among x xs → Hands (f x))
      → AllByRecursion Hands (map f xs)
  each f [] a = tt
  each f (x ∷ xs) a = (a x (inl refl), each f xs (λ y m. a y (inr m)))

  or-none : (w : World) (t : Bool) (xs : List Happening) → AllHanded w xs → AllHanded w (cond t xs [])
  or-none w true xs a = a
  or-none w false xs a = tt

  -- a replica by its number
  at : (w : World) (r : ℕ) → IsGood w → is_replica_of sizes r ≡ true → is_replica w r ≡ true
  at w r g c = ap (λ (s : Sizes). is_replica_of s r) g.sizes_are ∙ c

  listed-at : (w : World) (r : ℕ) → Among r (correct_replicas w) → is_replica w r ≡ true
  listed-at w r m = (and_parts _ _ (among-correct w (replicas w.sizes) r m)).0

  listed : (w : World) (r : ℕ) → IsGood w → Among r (correct_replicas w) → is_replica_of sizes r ≡ true
  listed w r g m = sym (ap (λ (s : Sizes). is_replica_of s r) g.sizes_are) ∙ listed-at w r m

  -- ---- views, and what the leader leads from

  waits : (w : World) (r n : ℕ) → is_replica w r ≡ true → AllByRecursion (MayCome w) (timeouts r n)
  unfolding timeouts
  waits w r zero c = tt
  waits w r (suc n) c = (c, waits w r n c)

  come : (v : ℕ) → Hands (come_to v)
  unfolding come_to
  come v w g =
      turns (map (waits_until v) (correct_replicas w))
      (each (waits_until v) (correct_replicas w)
      (λ r m z h. all-come z _ (waits z r _ (at z r h (listed w r g m))))) w g

  first : (l : ℕ) → is_replica_of sizes l ≡ true → Hands (make_first l)
  unfolding make_first
  first l c w g =
      or-none w (length (over_lock l w) == 0) _
      (turns _ (
        (λ v h. all-come v (lead l (digest_of []) ∷ beat l ∷ []) (at v l h c, (at v l h c, tt))),
        (
          (λ v h. all-come v _ (comes-come v (newcomers v (correct_replicas v)) _
              (λ p. proposals-there (length w.sent) v p))),
          tt,
        ),
      ) w g)

  -- ---- blocks that are asked for

  one-asked : (d : Bytes) (u r : ℕ) → is_replica_of sizes u ≡ true → Hands (ask_one d u r)
  unfolding ask_one
  one-asked d u r c w g =
      turns _ (
        (λ v h. all-come v (ask u r d ∷ []) (at v u h c, tt)),
        (
          (λ v h. all-come v _ (deliveries-hold (length w.sent) is_question v (MayCome v)
              (λ n s q e m o i. (
                s,
                e,
                question-for v q s.to s.frame o (h.passed.sent s (among-dropped (length w.sent) v.sent s m)).2 i,
              )))),
          tt,
        ),
      ) w g

  each-asked : (d : Bytes) (u : ℕ) (rs : List ℕ) → is_replica_of sizes u ≡ true → Hands (ask_each d u rs)
  unfolding ask_each
  each-asked d u [] c w g = tt
  each-asked d u (r ∷ rs) c w g =
      let one = one-asked d u r c w g in
      handed-both w (ask_one d u r w) (ask_each d u rs (after w (ask_one d u r w))) one
      (each-asked d u rs c (after w (ask_one d u r w)) (good-after w (ask_one d u r w) g one))

  fetched : (d : Bytes) (u : ℕ) → is_replica_of sizes u ≡ true → Hands (fetch_block d u)
  unfolding fetch_block in_turn
  fetched d u c w g =
      let xs = ask_each d u (correct_replicas w) w in
      let v : World = after w xs in
      let asked = each-asked d u (correct_replicas w) c w g in
      let back = back-each d u (correct_replicas w) w g.passed.keys (at w u g c) in
      let drops = ap (λ (l : List Sent). drop (length w.sent) l) back.1 ∙ drop-append_seam w.sent back.0 in
      let copies = since-hold (length w.sent) is_copy v (λ n. IsThere v n u) (λ n s e m o.
      (s, e, copy-for u s.to s.frame o (back.2 s (subst (λ (l : List Sent). Among s l) drops m)))) in
      handed-both w xs _ asked
      (all-come v (gather u (map of_record (sent_since (length w.sent) is_copy v)) ∷ [])
      ((at v u (good-after w xs g asked) c, sources-there v u _ copies), tt))

  for-all : (x : Branch) → Hands (fetch_for_all x)
  unfolding fetch_for_all
  for-all x w g =
      turns _ (each (fetch_block (digest_of x)) (lacking (digest_of x) w)
      (λ u m. fetched (digest_of x) u (listed w u g (Among-filter _ (correct_replicas w) u m).0))) w g

  all-fetched : (xs : List Branch) → Hands (fetch_all xs)
  unfolding fetch_all
  all-fetched xs w g = turns _ (each fetch_for_all xs (λ x m. for-all x)) w g

  -- ---- blocks that decide

  one-made : (l : ℕ) → is_replica_of sizes l ≡ true → Hands (make_block l)
  unfolding make_block
  one-made l c w g =
      turns _ (
        (λ v h. all-come v (beat l ∷ []) (at v l h c, tt)),
        (
          (λ v h. all-come v _ (offered-come v (l ∷ []) _
              (λ r m. elim m [
                | inl e ↦ subst (λ (z : ℕ). is_replica v z ≡ true) (sym e) (at v l h c)
                | inr z ↦ absurd z
              ])
              (λ r. proposals-there (length w.sent) v r))),
          tt,
        ),
      ) w g

  made : (n l : ℕ) → is_replica_of sizes l ≡ true → Hands (make_blocks n l)
  unfolding make_blocks
  made zero l c w g = tt
  made (suc n) l c w g = turns _ (one-made l c, (made n l c, tt)) w g

  burst-made : (n l : ℕ) → is_replica_of sizes l ≡ true → Hands (burst n l)
  unfolding burst
  burst-made n l c w g =
      turns _ (
        made n l c,
        (
          (λ v h. all-come v _ (offered-come v (others l v) _
              (λ r m. listed-at v r (Among-filter (λ z. not (z == l)) (correct_replicas v) r m).0)
              (λ r. proposals-there (length w.sent) v r))),
          tt,
        ),
      ) w g

  round-made : (n l : ℕ) → is_replica_of sizes l ≡ true → Hands (round n l)
  unfolding round
  round-made n l c w g =
      turns _ (
        burst-made n l c,
        (
          (λ v h. all-come v _ (comes-come v (correct_replicas v) _ (λ p. votes-there (length w.sent) v p))),
          tt,
        ),
      ) w g

  rounds-made : (n l : ℕ) → is_replica_of sizes l ≡ true → Hands (rounds n l)
  unfolding rounds
  rounds-made n l c w g =
      turns _ (round-made n l c, (round-made 1 l c, (round-made 1 l c, (round-made 1 l c, tt)))) w g

  -- ---- all of it

  -- frame k comes to anybody
  request-there : (w : World) (p : ℕ) → IsGood w → IsThere w k p
  request-there w p g =
      (g.sent, g.recorded, subst (λ (f : Frame). IsFor p g.sent.to f) (sym g.request) tt)

  told : (l : ℕ) (d : Bytes) → is_replica_of sizes l ≡ true → Hands (lead_with k l d)
  told l d c w g = all-come w (lead l d ∷ relay k l ∷ []) (at w l g c, (request-there w l g, tt))

  -- the first of the highest lock is a replica
  highest-at : (w : World) → IsGood w → is_replica_of sizes (highest_locked w (correct_replicas w)) ≡ true
  unfolding highest_locked
  highest-at w g = by (correct_replicas w) (λ r m. listed w r g m)
    where
      by : (rs : List ℕ) → ((r : ℕ) → Among r rs → is_replica_of sizes r ≡ true)
          → is_replica_of sizes (highest_locked w rs) ≡ true
      by [] h = lt-ltb 0 (replicas sizes) (omega arith)
      by (r ∷ rs) h = h (highest_locked w (r ∷ rs)) (highest-locked w r rs).0

  agreed : Hands (agree_on k)
  unfolding agree_on
  agreed w g =
      let l : ℕ = highest_locked w (correct_replicas w) in
      let c = highest-at w g in
      turns _ (
        come _,
        (first l c, (all-fetched _, (told l _ c, ((λ v h. rounds-made _ l c v h), tt)))),
      ) w g

  asked-again : Hands (ask_again k)
  unfolding ask_again
  asked-again w g =
      turns _ (
        (λ v h. all-come v _ (comes-come v (correct_replicas v) (k ∷ []) (λ p. (request-there v p h, tt)))),
        (
          (λ v h. all-come v _ (deliveries-hold (length w.sent) is_reply v (MayCome v)
              (λ n s q e m o i. (
                s,
                e,
                reply-for v q s.to s.frame o (h.passed.sent s (among-dropped (length w.sent) v.sent s m)).2 i,
              )))),
          tt,
        ),
      ) w g

  healed : Hands (heal k)
  unfolding heal
  healed w g = turns _ (agreed, (asked-again, tt)) w g

-- ---- the law

forges-both : (w : World) (xs ys : List Happening) → NoForgery w xs → NoForgery (after w xs) ys → NoForgery w (xs ++ ys)
unfolding after
forges-both w [] ys a b = b
forges-both w (x ∷ xs) ys a b = (a.0, forges-both (happens w x) xs ys a.1 b)

pub healing-forges-nothing : HealingForgesNothing
unfolding new_world
healing-forges-nothing k client sizes is_faulty ring hs w met honest e asked =
    let start : World = new_world sizes is_faulty ring in
    let passed = run-passed hs start w (new-passed sizes is_faulty ring met.keys) honest e in
    let ends : after start hs ≡ w = run-after hs start w e in
    let handed = healed w.sizes k w (record {
      passed = passed;
      sizes_are = refl;
      sent = asked.sent;
      command = asked.command;
      recorded = asked.recorded;
      request = asked.request;
    }) in (
      all-both (λ h. IsReadIn sizes h.0) hs (heal k w) met.read (handed-read sizes w (heal k w) handed),
      forges-both start hs (heal k w) met.no_forgery
          (subst (λ (z : World). NoForgery z (heal k w)) (sym ends) (handed-forges w (heal k w) passed handed)),
    )

pub runs-are-healed : RunsAreHealed
unfolding new_world
runs-are-healed k client sizes is_faulty ring hs w met honest apart e are may asked =
    let more = healing-forges-nothing k client sizes is_faulty ring hs w met honest e asked in
    never-wedged k client sizes is_faulty ring hs w (record {
      few = met.few;
      keys = met.keys;
      read = more.0;
      no_forgery = more.1;
      no_collision = apart;
    }) e are may asked
