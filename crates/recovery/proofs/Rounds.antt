-- A round: a burst, and all votes on it, leave all with certificates of their own.
use Rattle.std.proofs.Common.{ℕ, suc, ◌≡◌, ◌<◌, ◌≤◌, ◌==◌, ◌&&◌, not, Bool, true, false, cond, List, [], ◌∷◌}
use Rattle.std.proofs.Common.{◌++◌, map, length, drop, refl, sym, ap, subst, ◌∙◌, arith, inl, inr, nat_lt, Some, Ok}
use Rattle.std.proofs.Common.{option_map, slice_get}
use Rattle.std.specs.Prelude.{count_by}
use Rattle.ids.specs.declared.limits.TheConstants.{MOST_OF_HEIGHT}
use Rattle.std.specs.List.{list_any, AllByRecursion}
use Rattle.std.specs.Cmp.Lexicographic.{bytes_decides}
use Rattle.std.proofs.lemmas.Bool.{cond-true, cond-false, cond_both, and_from, and_parts, cases_Bool}
use Rattle.std.proofs.lemmas.List.{append-nil, append_assoc, length-append, length-map}
use Rattle.std.proofs.Math.Seq.{drop-append_seam}
use Rattle.ids.specs.Sizes.{Sizes, replicas, quorum, leader}
use Rattle.definitions.specs.Bytes.{Bytes}
use Rattle.definitions.specs.Lists.{Among, AreDistinct, count_below, greatest}
use Rattle.definitions.specs.Branches.{Branch, branch_eq}
use Rattle.definitions.specs.Agreement.{MayBeCertified, supports}
use Rattle.definitions.specs.Checks.{Identity, command_verifies}
use Rattle.definitions.specs.Trees.{Stored, clear_above}
use Rattle.definitions.specs.Chronicles.{Chronicle, Step.took_block, Step.noted, Note.got_vote, Note.led_from}
use Rattle.definitions.specs.Chronicles.{voted_blocks}
use Rattle.definitions.specs.Chronicles.{vheight, window, standing_blocks}
use Rattle.definitions.specs.Digests.{digest, digest_of, AllKnown}
use Rattle.definitions.specs.Frames.{Core, Vote, Frame, genesis_core}
use Rattle.definitions.specs.Grounds.{is_own_certified, own_counted}
use Rattle.definitions.specs.Sendings.{vote_frame}
use Rattle.definitions.specs.States.{votes, qc_high, leaf}
use Rattle.definitions.specs.Worlds.{World, Sent, Happening, new_world, is_correct, self_of}
use Rattle.definitions.specs.Runs.{run, after}
use Rattle.definitions.specs.Events.{recorded}
use Rattle.definitions.proofs.Lists.{Among-either}
use Rattle.definitions.proofs.Branches.{branch_eq-decides}
use Rattle.definitions.proofs.Certificates.{AreOfEach}
use Rattle.definitions.proofs.Checks.{block-checked}
use Rattle.definitions.proofs.Chronicles.{voted-height, voted-tree}
use Rattle.definitions.proofs.Counts.{apart-count, count-mono}
use Rattle.definitions.proofs.Horizons.{window-tree}
use Rattle.linear_law.specs.Law.{correct_family}
use Rattle.linear_law.proofs.HeldVotes.{AreHolding}
use Rattle.linear_law.proofs.MadeCertificates.{qc_high-is, votes-each, votes-count, Counts}
use Rattle.linear_law.proofs.Runs.{IsGiven, Stands}
use Rattle.recovery.specs.Correct.{OfCorrect, ShareKeys, chronicle_of, correct_replicas, amply}
use Rattle.recovery.specs.Healing.{in_turn, sent_since, numbers_of, is_vote, comes_to, burst, round, highest_voted}
use Rattle.recovery.specs.Locks.{high_of}
use Rattle.recovery.specs.Rounds.{Climbs, MayBurst, IsVotedForByAll, IsCertifiedByAll, RoundsCertify}
use Rattle.recovery.proofs.Bursts.{burst-voted, distinct-correct}
use Rattle.recovery.proofs.Copies.{replicas-to}
use Rattle.recovery.proofs.Correct.{among-correct, correct-listed}
use Rattle.recovery.proofs.Families.{one-of-height}
use Rattle.recovery.proofs.Fetched.{window-told, lock-told}
use Rattle.recovery.proofs.Counting.{IsCounting}
use Rattle.recovery.proofs.Views.{not-less}
use Rattle.recovery.proofs.Highs.{high-certified, certified-low, voter-supports, some-core, some-core-is}
use Rattle.recovery.proofs.Offers.{GoesOn, goes-both}
use Rattle.recovery.proofs.Steps.{frame-behind}
use Rattle.recovery.proofs.Tallied.{MayCount, HasCounted, votes-to-all, counted-all}
use Rattle.recovery.proofs.Voting.{AreVotes, HasVote}
use Rattle.recovery.proofs.Ways.{IsOnWay, KnownAt, on-way-from, on-way, way-past}
use Rattle.recovery.proofs.Wells.{IsReached, sound-of, known-of, stored-of, family-of, one-branch}
use Rattle.recovery.proofs.Worlds.{keys-in, same-correct, same-self, passes-append}
use Rattle.recovery.proofs.Worlds.{after-append}

-- ---- numbers of frames

-- each of these numbers is that of a frame that passes
numbered-pass : (p : Frame → Bool) (v : World) (ys xs : List Sent) (k : ℕ) → v.sent ≡ xs ++ ys → length xs ≡ k
    → (i : ℕ) → Among i (numbers_of p k ys) → (f : Frame) × (recorded v i ≡ Some f) × (p f ≡ true)
unfolding numbers_of
numbered-pass p v [] xs k e l i m = absurd m
numbered-pass p v (s ∷ ys) xs k e l i m =
    let here : recorded v k ≡ Some s.frame =
    (λ j. option_map (λ z. z.frame) (slice_get (e j) (sym l j))) ∙ frame-behind xs s ys in
    let rest = numbered-pass p v ys (xs ++ s ∷ []) (suc k) (e ∙ sym (append_assoc xs (s ∷ []) ys))
    (let n = length-append xs (s ∷ []) in omega (arith, n, l)) i in
    by (p s.frame) refl here rest m
  where
    by : (t : Bool) → p s.frame ≡ t → recorded v k ≡ Some s.frame
        → (Among i (numbers_of p (suc k) ys) → (f : Frame) × (recorded v i ≡ Some f) × (p f ≡ true))
        → Among i (cond t (k ∷ numbers_of p (suc k) ys) (numbers_of p (suc k) ys))
        → (f : Frame) × (recorded v i ≡ Some f) × (p f ≡ true)
    by true t h rest (inl q) = (s.frame, ap (recorded v) q ∙ h, t)
    by true t h rest (inr q) = rest q
    by false t h rest q = rest q

-- and each frame that passes has one
pass-numbered : (p : Frame → Bool) (v : World) (ys xs : List Sent) (k : ℕ) → v.sent ≡ xs ++ ys → length xs ≡ k
    → (s : Sent) → Among s ys → p s.frame ≡ true
    → (i : ℕ) × Among i (numbers_of p k ys) × (recorded v i ≡ Some s.frame)
unfolding numbers_of
pass-numbered p v [] xs k e l s m t = absurd m
pass-numbered p v (y ∷ ys) xs k e l s (inl q) t =
    let here : recorded v k ≡ Some y.frame =
    (λ j. option_map (λ z. z.frame) (slice_get (e j) (sym l j))) ∙ frame-behind xs y ys in (
      k,
      subst (λ (n : List ℕ). Among k n) (sym (cond-true (p y.frame) (k ∷ numbers_of p (suc k) ys) (numbers_of p
          (suc k) ys)
          (ap (λ (z : Sent). p z.frame) (sym q) ∙ t))) (inl refl),
      here ∙ ap (λ (z : Sent). Some z.frame) (sym q),
    )
pass-numbered p v (y ∷ ys) xs k e l s (inr q) t =
    let r = pass-numbered p v ys (xs ++ y ∷ []) (suc k) (e ∙ sym (append_assoc xs (y ∷ []) ys))
    (let n = length-append xs (y ∷ []) in omega (arith, n, l)) s q t in (
      r.0,
      cond_both (p y.frame) (k ∷ numbers_of p (suc k) ys) (numbers_of p (suc k) ys) (λ (n : List ℕ). Among r.0 n)
          (λ h. inr r.1) (λ h. r.1),
      r.2,
    )

-- ---- heights that were voted for

pub vheight-told : (c d : Chronicle) → voted_blocks c ≡ voted_blocks d → vheight c ≡ vheight d
unfolding vheight
vheight-told c d e = ap (λ (l : List Branch). greatest (map (λ (b : Branch). length b) l)) e

pub highest-voted-below : (w : World) (rs : List ℕ) (n : ℕ) → 0 < n
    → ((r : ℕ) → Among r rs → vheight (chronicle_of w r) < n) → highest_voted w rs < n
unfolding highest_voted
highest-voted-below w [] n p h = p
highest-voted-below w (r ∷ rs) n p h =
    let a = h r (inl refl) in let b = highest-voted-below w rs n p (λ s m. h s (inr m)) in omega (arith, a, b)

-- ---- votes that were kept before

-- each kept vote was held
votes-of : (P : Bytes → Vote → Type 0) (s : Sizes) (x : Branch) (c : Chronicle) → AreHolding P c
    → AllByRecursion (P (digest_of x)) (votes s x c)
unfolding votes
votes-of P s x [] h = tt
votes-of P s x (noted (got_vote voter v b) ∷ c) h =
    cond_both (branch_eq b x
    && (not (list_any (λ z. z.voter == voter) (votes s x c)) && nat_lt (length (votes s x c)) (quorum s))) _ _
    (AllByRecursion (P (digest_of x)))
    (λ e. (
      subst (λ (y : Bytes). P y (record { voter = voter; vector = v }))
          (ap digest_of ((branch_eq-decides b x).0 (and_parts _ _ e).0)) h.0,
      votes-of P s x c h.1,
    ))
    (λ e. votes-of P s x c h.1)
votes-of P s x (noted (led_from b) ∷ c) h = tt
votes-of P s x (took_block a ∷ c) h = votes-of P s x c h.1
votes-of P s x (noted n ∷ c) h = votes-of P s x c h.1

voter-of : Vote → ℕ
voter-of v = v.voter

-- votes of distinct voters below n that pass no test
distinct-voters : (bs : List Vote) → AreOfEach bs → AreDistinct (map voter-of bs)
unfolding voter-of
distinct-voters [] d = tt
distinct-voters (b ∷ bs) d = (not-among bs d.0, distinct-voters bs d.1)
  where
    not-among : (xs : List Vote) → AllByRecursion (λ y. y.voter ≡ b.voter → ⊥) xs → Among b.voter (map voter-of xs) → ⊥
    not-among [] h m = m
    not-among (y ∷ ys) h (inl e) = h.0 (sym e)
    not-among (y ∷ ys) h (inr m) = not-among ys h.1 m

voters-all : (P Q : Vote → Type 0) (R : ℕ → Type 0) (bs : List Vote) → ((b : Vote) → P b → Q b → R b.voter)
    → AllByRecursion P bs → AllByRecursion Q bs → AllByRecursion R (map voter-of bs)
unfolding voter-of
voters-all P Q R [] h p q = tt
voters-all P Q R (b ∷ bs) h p q = (h b p.0 q.0, voters-all P Q R bs h p.1 q.1)

module _ (Known : Core → Type 0) (w : World) (g : IsReached Known w) (x : Branch) (kx : AllKnown Known x)
    (low : OfCorrect w (λ r. vheight (chronicle_of w r) < length x)) where
  -- nobody correct voted for a block above all votes
  not-voted : (r : ℕ) → is_correct w r ≡ true → (y : Branch) → Among y (voted_blocks (chronicle_of w r))
      → digest_of y ≡ digest_of x → ⊥
  not-voted r c y m e =
      let so = sound-of Known w g r c in
      let same = one-branch Known w g y x (known-of Known w g r c y (voted-tree w.sizes
      (chronicle_of w r) so.lawful y m)) kx e in
      let h = voted-height (chronicle_of w r) y m in
      let l = low r c in
      let n = ap (λ (z : Branch). length z) same in
      omega (arith, h, l, n)

  -- so no quorum of votes for it was kept
  votes-lack : (u : ℕ) → is_correct w u ≡ true → length (votes w.sizes x (chronicle_of w u)) < quorum w.sizes
  votes-lack u c =
      let bs : List Vote = votes w.sizes x (chronicle_of w u) in
      let counts = votes-count (self_of w u) x (chronicle_of w u) (stored-of Known w g u c) in
      let given = votes-of (IsGiven (is_correct w) (λ i. chronicle_of w i) (self_of w u)) w.sizes x (chronicle_of w u)
      (g.well.good.run.given u c) in
      let below = voters-all (Counts (self_of w u) (digest_of x)) (Counts (self_of w u) (digest_of x))
      (λ v. v < replicas w.sizes) bs (λ b p q. p.0.voter) counts counts in
      let apart = voters-all (Counts (self_of w u) (digest_of x))
      (IsGiven (is_correct w) (λ i. chronicle_of w i) (self_of w u) (digest_of x)) (λ v. is_correct w v ≡ false) bs
      (λ b p q. elim (cases_Bool (is_correct w b.voter)) [
        | inl t ↦ absurd (let v = (q p.1 t).votes (digest_of x) b refl in not-voted b.voter t v.0 v.1 v.2)
        | inr f ↦ f
      ]) counts given in
      let n = apart-count (replicas w.sizes) (is_correct w) (map voter-of bs)
      (distinct-voters bs (votes-each w.sizes x (chronicle_of w u))) below apart in
      let long = length-map bs voter-of in
      let enough = (family-of Known w g).enough in
      omega (arith, n, long, enough)

-- a correct replica's vote for it wasn't sent before
sent-before : (Known : Core → Type 0) (w : World) (g : IsReached Known w) (x : Branch) (kx : AllKnown Known x)
    → OfCorrect w (λ r. vheight (chronicle_of w r) < length x) → (mid : World) (r : ℕ) → is_correct w r ≡ true
    → (s : Sent) → Among s w.sent → s.sender ≡ r → s.frame ≡ vote_frame (self_of mid r) x → ⊥
unfolding vote_frame
sent-before Known w g x kx low mid r c s m e f =
    let st : Stands (chronicle_of w s.sender) s.frame =
    g.well.good.run.stands s m (ap (is_correct w) e ∙ c) in
    let v = st.votes (digest_of x) _ f in
    not-voted Known w g x kx low r c v.0
    (subst (λ (i : ℕ). Among v.0 (voted_blocks (chronicle_of w i))) e v.1) v.2

-- the numbers of votes in the record
are-votes : (mid : World) (xs ys : List Sent) (ks : List ℕ) (k : ℕ) → mid.sent ≡ xs ++ ys → length xs ≡ k
    → ks ≡ numbers_of is_vote k ys → AreVotes mid ks
unfolding AreVotes
are-votes mid xs ys ks k e l n = λ i m.
    numbered-pass is_vote mid ys xs k e l i (subst (λ (z : List ℕ). Among i z) n m)

have-vote : (mid : World) (xs ys : List Sent) (ks : List ℕ) (k : ℕ) → mid.sent ≡ xs ++ ys → length xs ≡ k
    → ks ≡ numbers_of is_vote k ys → (r : ℕ) (x : Branch) (s : Sent) → Among s ys
    → s.frame ≡ vote_frame (self_of mid r) x → HasVote mid ks r x
unfolding HasVote is_vote vote_frame
have-vote mid xs ys ks k e l n r x s m f =
    let i = pass-numbered is_vote mid ys xs k e l s m (ap is_vote f) in
    (i.0, subst (λ (z : List ℕ). Among i.0 z) (sym n) i.1, i.2 ∙ ap (λ (z : Frame). Some z) f)

-- ---- the round

round-is : (n l : ℕ) (w : World)
    → round n l w
    ≡ burst n l w
    ++ amply (comes_to (correct_replicas (after w (burst n l w)))
    (sent_since (length w.sent) is_vote (after w (burst n l w))))
unfolding round in_turn
round-is n l w = ap (λ (x : List Happening). burst n l w ++ x) (append-nil _)

-- a certificate of votes for the block, at its holder
own-certified : (Known : Core → Type 0) (w : World) → IsReached Known w → (u : ℕ) → is_correct w u ≡ true
    → (x : Branch) → AllKnown Known x → 0 < length x → high_of w u ≡ x
    → 0 < length (qc_high w.sizes (chronicle_of w u)).certificate.votes
    → is_own_certified (self_of w u) x (chronicle_of w u) ≡ true
unfolding is_own_certified own_counted digest_of
own-certified Known w g u c x kx up high some =
    let self : Identity = self_of w u in
    let q = qc_high w.sizes (chronicle_of w u) in
    let is = qc_high-is self (chronicle_of w u) (stored-of Known w g u c) in
    let block = (branch_eq-decides q.block x).1 high in
    elim is.kept [
      | inr none ↦ absurd (let k = ap (λ (l : List Vote). length l) none in omega (arith, k, some))
      | inl good ↦ (
          let ch = block-checked self some-core q.certificate (some-core-is w.sizes) is.certificate_is good in
          elim ch.good [
            | inl z ↦ absurd (
                let e = one-branch Known w g x [] kx tt (sym (ap digest_of high) ∙ (sym is.justified
                ∙ (bytes_decides q.certificate.digest (digest genesis_core)).0 z)) in
                let n = ap (λ (b : Branch). length b) e in omega (arith, n, up))
            | inr many ↦ and_from _ _ block
                (replicas-to w.sizes (quorum w.sizes) _ (ch.distinct, ch.voters, many))
          ])
    ]

-- what all voted for is certified
all-certify : (w : World) (x : Branch) → quorum w.sizes ≤ count_below (replicas w.sizes) (is_correct w)
    → OfCorrect w (λ r. Among x (voted_blocks (chronicle_of w r))) → MayBeCertified (correct_family w) x
all-certify w x enough voted =
    let n = count-mono (replicas w.sizes) (is_correct w) (supports (correct_family w) x)
    (λ i l t. voter-supports w x i (λ c. voted i c)) in
    omega (arith, n, enough)

-- ---- who may climb from a block that is certified

-- all is clear above a block's own height
pub clear-own : (x : Branch) (stored : List Stored) → clear_above (length x) x stored ≡ true
unfolding clear_above
clear-own [] stored = refl
clear-own (b ∷ x) stored = cond-false (nat_lt (suc (length x)) (suc (length x))) _ _ (not-less (suc (length x)))

-- who climbed to a block, and has a certificate of its own for it, climbs on from there
climb-on : (self : Identity) (v : ℕ) (m x : Branch) (room : ℕ) (before c : Chronicle) → Climbs self v m x room before
    → IsCounting self x before c → length m < length x → is_own_certified self x c ≡ true → Climbs self v x x room c
climb-on self v m x room before c k counting up own =
    let w = window-told before c counting.taken counting.forgotten in
    let l = lock-told before c counting.taken in
    let long = ap (λ (b : Branch). length b) l in
    record {
      in_view = counting.in_view ∙ k.in_view;
      stands = subst (λ (b : List Branch). Among x b) (sym w) k.stands;
      over = ([], refl);
      ground = inr own;
      reach = (let h = counting.forgotten in let r = k.reach in omega (arith, h, r, up));
      safe = inr (elim k.safe [
        | inl e ↦ (let n = ap (λ (b : Branch). length b) e in omega (arith, long, n, up))
        | inr n ↦ omega (arith, long, n, up)
      ]);
      clear = clear-own x (standing_blocks c);
      trees = (let n = ap (λ (b : List Branch). length b) w in let t = k.trees in omega (arith, n, t));
      heights = λ h n. subst (λ (b : List Branch). count_by (λ y. length y == h) b < MOST_OF_HEIGHT) (sym w)
          (k.heights h n);
    }

module _ (sizes : Sizes) (start : World) (all : List Happening) where
  abbrev Known : Core → Type 0
  Known = KnownAt sizes start all

  -- what all voted for, and what was counted
  record HasRound (w mid end : World) (l v n room : ℕ) (m x : Branch) : Type 0 where
    on_end : IsReached Known end
    burst_is : GoesOn w mid
    votes_are : GoesOn mid end
    voted_for : IsVotedForByAll w mid l v n room m x
    low : OfCorrect mid (λ r. vheight (chronicle_of mid r) < suc (length x))
    counted : OfCorrect mid (λ u. HasCounted mid x u (end.replica u))

  -- so all are certified
  round-done : (w mid end : World) (l v n room : ℕ) (m x : Branch) → HasRound w mid end l v n room m x → 0 < n
      → is_correct w l ≡ true → ShareKeys end → run w (round n l w) ≡ Ok end → IsCertifiedByAll w end l v n room m x
  round-done w mid end l v n room m x h some cl keys ran =
      let so = h.voted_for in
      let g = h.on_end in
      let fam = family-of Known end g in
      let was : (r : ℕ) → is_correct end r ≡ true → is_correct mid r ≡ true =
      λ r c. sym (same-correct mid end h.votes_are.made r) ∙ c in
      let made = h.votes_are.made in
      let enough : quorum mid.sizes ≤ count_below (replicas mid.sizes) (is_correct mid) =
      subst (λ (p : ℕ → Bool). quorum mid.sizes ≤ count_below (replicas mid.sizes) p)
      (λ i r. same-correct mid end made r i)
      (subst (λ (s : Sizes). quorum s ≤ count_below (replicas s) (is_correct end)) made.sizes fam.enough) in
      let voted : OfCorrect end (λ r. Among x (voted_blocks (chronicle_of end r))) =
      λ r c. subst (λ (b : List Branch). Among x b) (sym (h.counted r (was r c)).counting.voted) (so.voted r
      (was r c)) in
      let certified = all-certify end x fam.enough voted in
      let top : highest_voted end (correct_replicas end) < suc (length x) =
      highest-voted-below end (correct_replicas end) (suc (length x)) (omega arith) (λ r k.
      let c = among-correct end (replicas end.sizes) r k in
      let e = vheight-told (chronicle_of end r) (chronicle_of mid r) (h.counted r (was r c)).counting.voted in
      let b = h.low r (was r c) in
      omega (arith, e, b)) in
      let up : 0 < length x = (let k = so.high in omega (arith, k, some)) in
      let high : OfCorrect end (λ r. high_of end r ≡ x) = λ u c.
      (let cm = was u c in
      let k = (h.counted u cm).counting in
      let full = counted-all mid x (chronicle_of end u) enough (h.counted u cm).counted in
      let sz = made.sizes in
      let reach : length x ≤ length (qc_high mid.sizes (chronicle_of end u)).block = elim k.enough [
        | inl l ↦ absurd (omega (arith, l, full))
        | inr b ↦ b
      ] in
      let reach2 = ap (λ (s : Sizes). length (qc_high s (chronicle_of end u)).block) sz in
      let cert = high-certified Known end g u c in
      let below = certified-low end fam (high_of end u) cert in
      let e : length (high_of end u) ≡ length x = omega (arith, reach, reach2, below, top) in
      elim cert [
        | inl z ↦ absurd (let i = ap (λ (b : Branch). length b) z in omega (arith, i, e, up))
        | inr p ↦ one-of-height (correct_family end) fam (high_of end u) x p certified e
      ]) in
      let all = goes-both w mid end h.burst_is h.votes_are in
      let cle = same-correct w end all.made l ∙ cl in
      let selfe = same-self w end all.made l in
      let selfm = same-self w mid h.burst_is.made l in
      let leaf_is : leaf (self_of end l) (chronicle_of end l) ≡ x =
      (let k = (h.counted l (was l cle)).counting.leaf_is in
      let here = ap (λ (s : Identity). leaf s (chronicle_of end l)) (selfe ∙ sym selfm) in
      here ∙ (elim k [
        | inl e ↦ e ∙ (ap (λ (s : Identity). leaf s (chronicle_of mid l)) selfm ∙ so.leaf_is)
        | inr e ↦ e ∙ (ap (λ (s : Sizes). (qc_high s (chronicle_of end l)).block) (sym made.sizes) ∙ high l cle)
      ])) in
      let own : OfCorrect end (λ r. is_own_certified (self_of end r) x (chronicle_of end r) ≡ true) = λ u c.
      (let cm = was u c in
      let kx = known-of Known end g u c x (window-tree (chronicle_of end u) x
      (subst (λ (b : List Branch). Among x b)
      (sym (window-told (chronicle_of mid u) (chronicle_of end u) (h.counted u cm).counting.taken
      (h.counted u cm).counting.forgotten)) (so.climbs u cm).stands)) in
      let e = ap (λ (b : Branch). length b) (high u c) in
      let sz = ap (λ (s : Sizes). length (qc_high s (chronicle_of end u)).block) made.sizes in
      own-certified Known end g u c x kx up (high u c)
      (subst (λ (s : Sizes). 0 < length (qc_high s (chronicle_of end u)).certificate.votes) (sym made.sizes)
      (elim (h.counted u cm).counting.made [
        | inl l ↦ absurd (omega (arith, l, e, sz))
        | inr k ↦ k
      ]))) in
      let higher : length m < length x = (let k = so.high in omega (arith, k, some)) in
      let climbs : OfCorrect end (λ r. Climbs (self_of end r) v x x room (chronicle_of end r)) = λ r c.
      (let cm = was r c in
      let e = same-self mid end made r in
      subst (λ (s : Identity). Climbs s v x x room (chronicle_of end r)) (sym e)
      (climb-on (self_of mid r) v m x room (chronicle_of mid r) (chronicle_of end r)
      (subst (λ (s : Identity). Climbs s v m x room (chronicle_of mid r)) (sym (same-self w mid h.burst_is.made r))
      (so.climbs r cm)) (h.counted r cm).counting higher
      (subst (λ (s : Identity). is_own_certified s x (chronicle_of end r) ≡ true) e (own r c)))) in
      record {
        ran = ran;
        height = so.high;
        over = so.over;
        justifies = so.justifies;
        carries = so.carries;
        high = high;
        own = own;
        climbing = record {
          keys = keys;
          goes = λ r c. (h.counted r (was r c)).going_on;
          correct = cle;
          leads_it = record {
            leader_is = ap (λ (s : Sizes). leader s v) made.sizes ∙ so.leads_on.leader_is;
            high = high l cle;
            climbs = subst (λ (b : Branch). Climbs (self_of end l) v x b room (chronicle_of end l)) (sym leaf_is)
                (climbs l cle);
            waiting = λ q k r c.
                ap (λ (i : Identity). command_verifies i q) (same-self mid end made r)
                ∙ so.leads_on.waiting q ((h.counted l (was l cle)).counting.waiting q k) r (was r c);
          };
          leaf_is = leaf_is;
          climbs = climbs;
        };
        low = λ r c.
            let e = vheight-told (chronicle_of end r) (chronicle_of mid r) (h.counted r (was r c)).counting.voted in
            let b = h.low r (was r c) in
            omega (arith, e, b);
        session = h.votes_are.session ∙ h.burst_is.session;
      }

  pub round-certified : (w : World) (rest : List Happening) (l v n room : ℕ) (m : Branch)
      → IsOnWay sizes start all w (round n l w ++ rest) → MayBurst w l v n room m
      → (x : Branch) × IsCertifiedByAll w (after w (round n l w)) l v n room m x
  round-certified w rest l v n room m on may =
      let from = may.climbing in
      let bs : List Happening = burst n l w in
      let mid : World = after w bs in
      let cs : List ℕ = correct_replicas mid in
      let ks : List ℕ = sent_since (length w.sent) is_vote mid in
      let later : List Happening = amply (comes_to cs ks) in
      let is = round-is n l w in
      let on0 = subst (IsOnWay sizes start all w) (append_assoc bs later rest)
      (subst (λ (z : List Happening). IsOnWay sizes start all w (z ++ rest)) is on) in
      let gw = on-way sizes start all w (bs ++ (later ++ rest)) on0 in
      let b = burst-voted sizes start all w (later ++ rest) l v n room m on0 may in
      let voted = b.voted_for in
      let x : Branch = leaf (self_of w l) (chronicle_of mid l) in
      let onm = way-past sizes start all bs (later ++ rest) w on0 voted.ran in
      let gm = on-way sizes start all mid (later ++ rest) onm in
      let made = b.goes.made in
      let was : (r : ℕ) → is_correct mid r ≡ true → is_correct w r ≡ true = λ r c. sym
      (same-correct w mid made r) ∙ c in
      let high = voted.high in
      let some = may.some in
      let lowx : OfCorrect w (λ r. vheight (chronicle_of w r) < length x) =
      λ r c. (let k = may.low r c in omega (arith, k, high)) in
      let stands : OfCorrect mid (λ r. Among x (window (chronicle_of mid r))) = λ r c. (voted.climbs r c).stands in
      let cl = same-correct w mid made l ∙ from.correct in
      let kx = known-of Known mid gm l cl x (window-tree (chronicle_of mid l) x (stands l cl)) in
      let famw = family-of Known w gw in
      let topw = highest-voted-below w (correct_replicas w) (length x) (omega (arith, high, some))
      (λ r k. lowx r (among-correct w (replicas w.sizes) r k)) in
      let drops : drop (length w.sent) mid.sent ≡ b.goes.more =
      ap (λ (z : List Sent). drop (length w.sent) z) b.goes.sent ∙ drop-append_seam w.sent b.goes.more in
      let numbers : ks ≡ numbers_of is_vote (length w.sent) b.goes.more =
      ap (λ (z : List Sent). numbers_of is_vote (length w.sent) z) drops in
      let are : AreVotes mid ks = are-votes mid w.sent b.goes.more ks (length w.sent) b.goes.sent refl numbers in
      let have : OfCorrect mid (λ r. HasVote mid ks r x) = λ r c.
      (let s = onm.votes r c (voted.going_on r c) x (voted.voted r c) in
      elim (Among-either s.0 w.sent b.goes.more (subst (λ (z : List Sent). Among s.0 z) b.goes.sent s.1)) [
        | inl old ↦ absurd (sent-before Known w gw x kx lowx mid r (was r c) s.0 old s.2 s.3)
        | inr new ↦ have-vote mid w.sent b.goes.more ks (length w.sent) b.goes.sent refl numbers r x s.0 new s.3
      ]) in
      let mays : (u : ℕ) → Among u cs → MayCount mid x u = λ u k.
      (let c = among-correct mid (replicas mid.sizes) u k in
      let cw = was u c in
      let still = b.still u cw in
      let cert = high-certified Known w gw u cw in
      let below = certified-low w famw (high_of w u) cert in
      record {
        correct = c;
        goes = voted.going_on u c;
        stands = stands u c;
        low = subst (λ (s : Sizes). length (qc_high s (chronicle_of mid u)).block < length x) (sym made.sizes)
            (still.low (length x) (omega (arith, high, some)) (omega (arith, below, topw)));
        lacks = subst (λ (s : Sizes). length (votes s x (chronicle_of mid u)) < quorum s) (sym made.sizes)
            (let e = ap (λ (z : List Vote). length z) (still.votes_are x) in
            let k = votes-lack Known w gw x kx lowx u cw in omega (arith, e, k));
      }) in
      let keysm = keys-in w mid made from.keys in
      let t = votes-to-all sizes start all x ks cs mid rest onm keysm (distinct-correct mid
      (replicas mid.sizes)) are have mays in
      let end : World = after mid later in
      let one = way-past sizes start all later rest mid onm t.0 in
      let ge = on-way sizes start all end rest one in
      let ends : after w (round n l w) ≡ end = ap (after w) is ∙ after-append w bs later in
      let ran : run w (round n l w) ≡ Ok end =
      ap (run w) is ∙ (passes-append w bs later voted.ran t.0 ∙ ap (λ (z : World). Ok z) (after-append w bs later)) in (
        x,
        subst (λ (z : World). IsCertifiedByAll w z l v n room m x) (sym ends)
            (round-done w mid end l v n room m x (record {
              on_end = ge;
              burst_is = b.goes;
              votes_are = t.1.goes;
              voted_for = voted;
              low = λ r c. (b.still r (was r c)).voted_low (suc (length x)) (omega arith)
                  (let k = lowx r (was r c) in omega (arith, k));
              counted = λ u c. t.1.each u (correct-listed mid u c);
            }) some from.correct (keys-in mid end t.1.goes.made keysm) ran),
      )

pub rounds-certify : RoundsCertify
rounds-certify l v n room m sizes is_faulty ring hs w met e may =
    let start : World = new_world sizes is_faulty ring in
    let on = on-way-from sizes is_faulty ring hs (round n l w) w met e in
    round-certified sizes start (hs ++ round n l w) w [] l v n room m
    (subst (IsOnWay sizes start (hs ++ round n l w) w) (sym (append-nil (round n l w))) on) may
