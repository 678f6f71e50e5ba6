-- All votes on a burst come to all, so that each has a certificate of its own.
use Rattle.ids.specs.declared.kind.Kind.TheVariants as kind
use Rattle.ids.specs.declared.fault.Fault.{Fault}
use Rattle.ids.specs.declared.fault.Fault.TheVariants as fault
use Rattle.std.proofs.Common.{ℕ, ◌≡◌, ◌⊎◌, not, true, List, [], ◌∷◌}
use Rattle.std.proofs.Common.{◌++◌, map, length, refl, sym, ap, subst, ◌∙◌, inl, inr}
use Rattle.std.proofs.Common.{Option, Some, None, true≢false}
use Rattle.std.proofs.lemmas.Bool.{cond-true, cond-false, cases_Bool, and_parts, lt-ltb}
use Rattle.ids.specs.Sizes.{Sizes}
use Rattle.definitions.specs.Bytes.{Bytes}
use Rattle.definitions.specs.Lists.{Among}
use Rattle.definitions.specs.Branches.{Branch}
use Rattle.definitions.specs.Checks.{Identity}
use Rattle.definitions.specs.Chronicles.{Chronicle, Step.noted, Note.got_vote, window}
use Rattle.definitions.specs.Digests.{digest_of}
use Rattle.definitions.specs.Frames.{Vote, Frame}
use Rattle.definitions.specs.Frames as frame
use Rattle.definitions.specs.Admission.{Checked, Checked.passes, Checked.rejected, check, own_tag_verifies}
use Rattle.definitions.specs.Replicas.{MemorySupply.ample, Replica, Standing.running}
use Rattle.definitions.specs.Rulings.{Input.vote_in, Ruling.due, with_block, ruling}
use Rattle.definitions.specs.Keyrings.{verify, vector_for}
use Rattle.definitions.specs.Tags.{tag_of}
use Rattle.definitions.specs.Sendings.{sendings, vote_frame}
use Rattle.definitions.specs.States.{find_block}
use Rattle.definitions.specs.Worlds.{World, Event.relay, Happening, is_correct, is_replica, self_of}
use Rattle.definitions.specs.Runs.{refusal, after}
use Rattle.definitions.specs.Events.{Effect, happens, recorded, acts, comes, effect, nothing, party_of, on_checked}
use Rattle.definitions.proofs.Trees.{found-itself}
use Rattle.linear_law.proofs.Runs.{member-faulty}
use Rattle.recovery.specs.Correct.{OfCorrect, ShareKeys, chronicle_of, amply}
use Rattle.recovery.specs.Healing.{is_vote}
use Rattle.recovery.proofs.Asked.{relay-hands}
use Rattle.recovery.proofs.Counting.{IsCounting, IsCountedFor, counting-on, counted-on, counted-now}
use Rattle.recovery.proofs.Fetched.{window-told}
use Rattle.recovery.proofs.Copies.{vector-verifies, correct-party}
use Rattle.recovery.proofs.Offers.{GoesOn, goes-none, goes-both, recorded-later, row-own, row-other, slice-there}
use Rattle.recovery.proofs.Steps.{going, outs, HandsIn, step-stood, asked}
use Rattle.recovery.proofs.Ways.{IsOnWay, KnownAt, on-way, way-on}
use Rattle.recovery.proofs.Wells.{sound-of}
use Rattle.recovery.proofs.Worlds.{keys-in, same-correct, same-self, Passes, passes-none}
use Rattle.recovery.proofs.Worlds.{passes-one, named, effect-correct}

-- ---- one vote comes

-- a vote comes to a replica: it notes one for some block, or nothing changes with it
pub record GotOne (w next : World) (u : ℕ) : Type 0 where
  pub goes : GoesOn w next
  pub others : (j : ℕ) → (j ≡ u → ⊥) → next.replica j ≡ w.replica j
  pub own : (next.replica u ≡ w.replica u)
      ⊎ ((voter : ℕ) × (v : Bytes) × (y : Branch)
      × (next.replica u ≡ going (noted (got_vote voter v y) ∷ chronicle_of w u)))

-- nothing changes with a frame that is rejected
rejected-goes : (w : World) (k u : ℕ) (f : Frame) (n : Fault) → is_correct w u ≡ true → recorded w k ≡ Some f
    → check (self_of w u) f ≡ rejected n → GotOne w (happens w (relay k u, ample)) u
unfolding acts comes party_of happens nothing
rejected-goes w k u f n c e h =
    let is : effect w (relay k u, ample) ≡ nothing w (Some n) =
    effect-correct w (relay k u, ample) (member-faulty w u c)
    ∙ (ap (λ (o : Option Frame). comes u ample o w) e
    ∙ (cond-true (is_replica w u) _ _ (and_parts (is_replica w u) (not (w.is_faulty u)) c).0
    ∙ ap (λ (x : Checked). on_checked u ample x w) h)) in
    let row = ap (λ (x : Effect). x.replica) is in
    record {
      goes = record {
        made = record { sizes = refl; faulty = refl; ring = refl };
        more = [];
        sent = ap (λ (x : Effect). w.sent ++ outs w u x.out) is;
        session = ap (λ (x : Effect). x.session) is;
      };
      others = λ j n. ap (λ (r : ℕ → Replica). r j) row;
      own = inl (ap (λ (r : ℕ → Replica). r u) row);
    }

module _ (sizes : Sizes) (start : World) (all : List Happening) where
  relay-named : (w : World) (k u : ℕ) (f : Frame) → is_correct w u ≡ true → recorded w k ≡ Some f
      → refusal w (relay k u) ≡ None
  relay-named w k u f c e =
      named w (relay k u) (correct-party w u c) (lt-ltb k (length w.sent) (slice-there w.sent k f e)) refl

  -- one that passes
  passed-goes : (w : World) (rest : List Happening) (k u : ℕ) (d : Bytes) (b : Vote)
      → IsOnWay sizes start all w ((relay k u, ample) ∷ rest) → is_correct w u ≡ true
      → (w.replica u).standing ≡ running → recorded w k ≡ Some (frame.vote d b)
      → check (self_of w u) (frame.vote d b) ≡ passes (vote_in d b)
      → GotOne w (happens w (relay k u, ample)) u
  unfolding ruling
  passed-goes w rest k u d b on c s e h = by (find_block d (chronicle_of w u)) refl
    where
      next : World
      next = happens w (relay k u, ample)

      hands : HandsIn w (relay k u) u (vote_in d b)
      hands = relay-hands w k u (frame.vote d b) (vote_in d b) c s e h

      by : (o : Option Branch) → find_block d (chronicle_of w u) ≡ o → GotOne w next u
      by (Some y) i =
          let onn = way-on sizes start all w (relay k u, ample) rest on (relay-named w k u (frame.vote d b) c e) in
          let st = step-stood w (relay k u) u (vote_in d b) (noted (got_vote b.voter b.vector y)) hands
          (ap (λ (o : Option Branch). with_block o b.voter d (λ x. due (noted (got_vote b.voter b.vector x)))) i)
          onn.well.good.answers in
          record {
            goes = record {
              made = st.made;
              more = outs w u (sendings (self_of w u) (noted (got_vote b.voter b.vector y)) (chronicle_of w u));
              sent = st.sent;
              session = st.session;
            };
            others = row-other w next u (noted (got_vote b.voter b.vector y)) st;
            own = inr (b.voter, b.vector, y, row-own w next u (noted (got_vote b.voter b.vector y)) st);
          }
      by None i =
          let only = asked w (relay k u) u (vote_in d b) b.voter d hands
          (ap (λ (o : Option Branch). with_block o b.voter d (λ x. due (noted (got_vote b.voter b.vector x)))) i) in
          record {
            goes = record { made = only.made; more = outs w u _; sent = only.sent; session = only.session };
            others = λ j n. only.row j;
            own = inl (only.row u);
          }

  -- any vote
  vote-comes : (w : World) (rest : List Happening) (k u : ℕ) (f : Frame)
      → IsOnWay sizes start all w ((relay k u, ample) ∷ rest) → is_correct w u ≡ true
      → (w.replica u).standing ≡ running → recorded w k ≡ Some f → is_vote f ≡ true
      → GotOne w (happens w (relay k u, ample)) u
  unfolding check is_vote
  vote-comes w rest k u (frame.vote d b) on c s e h =
      elim (cases_Bool (own_tag_verifies (self_of w u) (frame.vote d b))) [
        | inl t ↦ passed-goes w rest k u d b on c s e (cond-true _ _ _ t)
        | inr n ↦ rejected-goes w k u (frame.vote d b) fault.BadTag c e (cond-false _ _ _ n)
      ]
  vote-comes w rest k u (frame.request q) on c s e h = absurd (true≢false (sym h))
  vote-comes w rest k u (frame.proposal v q p t) on c s e h = absurd (true≢false (sym h))
  vote-comes w rest k u (frame.new_view v q p t) on c s e h = absurd (true≢false (sym h))
  vote-comes w rest k u (frame.reply r q p n t g) on c s e h = absurd (true≢false (sym h))
  vote-comes w rest k u (frame.fetch r d t) on c s e h = absurd (true≢false (sym h))
  vote-comes w rest k u (frame.block r q p t) on c s e h = absurd (true≢false (sym h))

  -- that of a correct replica for a block that stands
  own-comes : (w : World) (rest : List Happening) (k u r : ℕ) (x : Branch)
      → IsOnWay sizes start all w ((relay k u, ample) ∷ rest) → ShareKeys w → is_correct w u ≡ true
      → is_correct w r ≡ true → (w.replica u).standing ≡ running
      → recorded w k ≡ Some (vote_frame (self_of w r) x) → Among x (window (chronicle_of w u))
      → (v : Bytes) × ((happens w (relay k u, ample)).replica u
      ≡ going (noted (got_vote r v x) ∷ chronicle_of w u))
  unfolding check ruling vote_frame find_block
  own-comes w rest k u r x on keys cu cr s e m =
      let self : Identity = self_of w u in
      let ch : Chronicle = chronicle_of w u in
      let g = on-way sizes start all w ((relay k u, ample) ∷ rest) on in
      let number = keys.numbers r (correct-party w r cr) (member-faulty w r cr) in
      let v : Bytes = vector_for w.sizes (w.ring r) kind.Vote (digest_of x) in
      let b : Vote = record { voter = (w.ring r).party; vector = v } in
      let verifies = ap (λ (n : ℕ). verify (w.ring u) kind.Vote n (digest_of x) (tag_of v (w.ring u).party)) number
      ∙ vector-verifies w keys kind.Vote r u (digest_of x) (correct-party w r cr) (member-faulty w r cr) cu in
      let there = found-itself _ (window ch) (sound-of (KnownAt sizes start all) w g u cu).is_tree x m in
      let onn = way-on sizes start all w (relay k u, ample) rest on (relay-named w k u (frame.vote
      (digest_of x) b) cu e) in
      let st = step-stood w (relay k u) u (vote_in (digest_of x) b) (noted (got_vote (w.ring r).party v x))
      (relay-hands w k u (frame.vote (digest_of x) b) (vote_in (digest_of x) b) cu s e (cond-true _ _ _ verifies))
      (ap (λ (o : Option Branch). with_block o (w.ring r).party (digest_of x)
      (λ y. due (noted (got_vote (w.ring r).party v y)))) there) onn.well.good.answers in (
        v,
        row-own w (happens w (relay k u, ample)) u (noted (got_vote (w.ring r).party v x)) st
            ∙ ap (λ (n : ℕ). going (noted (got_vote n v x) ∷ ch)) number,
      )

-- ---- all votes come to one

-- of these frames all are votes
unfoldable pub AreVotes : World → List ℕ → Type 0
AreVotes w ks = (k : ℕ) → Among k ks → (f : Frame) × (recorded w k ≡ Some f) × (is_vote f ≡ true)

-- one is the vote of this replica
unfoldable pub HasVote : World → List ℕ → ℕ → Branch → Type 0
HasVote w ks r x = (k : ℕ) × Among k ks × (recorded w k ≡ Some (vote_frame (self_of w r) x))

pub votes-later : (w next : World) → GoesOn w next → (ks : List ℕ) → AreVotes w ks → AreVotes next ks
unfolding AreVotes
votes-later w next g ks h = λ k m. (let r = h k m in (r.0, recorded-later w next g k r.0 r.1, r.2))

pub vote-later : (w next : World) → GoesOn w next → (ks : List ℕ) (r : ℕ) (x : Branch) → HasVote w ks r x
    → HasVote next ks r x
unfolding HasVote
vote-later w next g ks r x h = (
  h.0,
  h.1,
  recorded-later w next g h.0 (vote_frame (self_of w r) x) h.2
      ∙ ap (λ (s : Identity). Some (vote_frame s x)) (sym (same-self w next g.made r)),
)

-- what votes leave of one
pub record VotedOne (w next : World) (u : ℕ) (x : Branch) (before : Chronicle) : Type 0 where
  pub goes : GoesOn w next
  pub others : (j : ℕ) → (j ≡ u → ⊥) → next.replica j ≡ w.replica j
  pub going_on : (next.replica u).standing ≡ running
  pub counting : IsCounting (self_of w u) x before (chronicle_of next u)
  pub counted : OfCorrect w (λ r. IsCountedFor w.sizes x r (chronicle_of next u))

unfoldable pub relays-of : ℕ → List ℕ → List Happening
relays-of u ks = amply (map (λ k. relay k u) ks)

-- what one vote leaves of the count
count-one : (self : Identity) (x : Branch) (before : Chronicle) (y z : Replica) → IsCounting self x before y.chronicle
    → (z ≡ y) ⊎ ((voter : ℕ) × (v : Bytes) × (b : Branch) × (z ≡ going (noted (got_vote voter v b) ∷ y.chronicle)))
    → IsCounting self x before z.chronicle
count-one self x before y z h (inl e) = subst (λ (r : Replica). IsCounting self x before r.chronicle) (sym e) h
count-one self x before y z h (inr g) =
    subst (λ (r : Replica). IsCounting self x before r.chronicle) (sym g.3)
    (counting-on self x g.2 g.0 g.1 before y.chronicle h)

counted-one : (s : Sizes) (x : Branch) (r : ℕ) (y z : Replica) → IsCountedFor s x r y.chronicle
    → (z ≡ y) ⊎ ((voter : ℕ) × (v : Bytes) × (b : Branch) × (z ≡ going (noted (got_vote voter v b) ∷ y.chronicle)))
    → IsCountedFor s x r z.chronicle
counted-one s x r y z h (inl e) = subst (λ (q : Replica). IsCountedFor s x r q.chronicle) (sym e) h
counted-one s x r y z h (inr g) =
    subst (λ (q : Replica). IsCountedFor s x r q.chronicle) (sym g.3)
    (counted-on s x g.2 r g.0 g.1 y.chronicle h)

stands-one : (y z : Replica) → y.standing ≡ running
    → (z ≡ y) ⊎ ((voter : ℕ) × (v : Bytes) × (b : Branch) × (z ≡ going (noted (got_vote voter v b) ∷ y.chronicle)))
    → z.standing ≡ running
stands-one y z s (inl e) = ap (λ (q : Replica). q.standing) e ∙ s
stands-one y z s (inr g) = ap (λ (q : Replica). q.standing) g.3

module _ (sizes : Sizes) (start : World) (all : List Happening) (u : ℕ) (x : Branch) (before : Chronicle)
    (stands : Among x (window before)) where
  pub votes-to-one : (ks : List ℕ) (w : World) (rest : List Happening)
      → IsOnWay sizes start all w (relays-of u ks ++ rest) → ShareKeys w → is_correct w u ≡ true
      → (w.replica u).standing ≡ running → AreVotes w ks → IsCounting (self_of w u) x before (chronicle_of w u)
      → OfCorrect w (λ r. IsCountedFor w.sizes x r (chronicle_of w u) ⊎ HasVote w ks r x)
      → Passes w (relays-of u ks) × VotedOne w (after w (relays-of u ks)) u x before
  unfolding relays-of after HasVote AreVotes
  votes-to-one [] w rest on keys c s are counting counted = (
    passes-none w,
    record {
      goes = goes-none w;
      others = λ j n. refl;
      going_on = s;
      counting = counting;
      counted = λ r d. elim (counted r d) [ inl h ↦ h | inr h ↦ absurd h.1 ];
    },
  )
  votes-to-one (k ∷ ks) w rest on keys c s are counting counted =
      let next : World = happens w (relay k u, ample) in
      let later : List Happening = relays-of u ks in
      let f = are k (inl refl) in
      let one = vote-comes sizes start all w (later ++ rest) k u f.0 on c s f.1 f.2 in
      let ok = relay-named sizes start all w k u f.0 c f.1 in
      let onn = way-on sizes start all w (relay k u, ample) (later ++ rest) on ok in
      let self1 = same-self w next one.goes.made u in
      let there : Among x (window (chronicle_of w u)) =
      subst (λ (l : List Branch). Among x l)
      (sym (window-told before (chronicle_of w u) counting.taken counting.forgotten)) stands in
      let counted1 : OfCorrect next (λ r. IsCountedFor next.sizes x r (chronicle_of next u) ⊎ HasVote next ks r x) =
      λ r d. (let d0 = sym (same-correct w next one.goes.made r) ∙ d in
      subst (λ (z : Sizes). IsCountedFor z x r (chronicle_of next u) ⊎ HasVote next ks r x) (sym one.goes.made.sizes)
      (elim (counted r d0) [
        | inl h ↦ inl (counted-one w.sizes x r (w.replica u) (next.replica u) h one.own)
        | inr (i, inl e, rec) ↦ inl (
            let mine = own-comes sizes start all w (later ++ rest) k u r x on keys c d0 s
            (subst (λ (j : ℕ). recorded w j ≡ Some (vote_frame (self_of w r) x)) e rec) there in
            subst (λ (q : Replica). IsCountedFor w.sizes x r q.chronicle) (sym mine.1)
            (counted-now w.sizes x r mine.0 (chronicle_of w u)))
        | inr (i, inr n, rec) ↦ inr (vote-later w next one.goes ks r x (i, n, rec))
      ])) in
      let more = votes-to-one ks next rest onn (keys-in w next one.goes.made keys)
      (same-correct w next one.goes.made u ∙ c) (stands-one (w.replica u) (next.replica u) s one.own)
      (votes-later w next one.goes ks (λ j n. are j (inr n)))
      (subst (λ (i : Identity). IsCounting i x before (chronicle_of next u)) (sym self1)
      (count-one (self_of w u) x before (w.replica u) (next.replica u) counting one.own)) counted1 in
      let end : World = after next later in (
        passes-one w (relay k u, ample) later ok more.0,
        record {
          goes = goes-both w next end one.goes more.1.goes;
          others = λ j n. more.1.others j n ∙ one.others j n;
          going_on = more.1.going_on;
          counting = subst (λ (i : Identity). IsCounting i x before (chronicle_of end u)) self1 more.1.counting;
          counted = λ r d. subst (λ (z : Sizes). IsCountedFor z x r (chronicle_of end u)) one.goes.made.sizes
              (more.1.counted r (same-correct w next one.goes.made r ∙ d));
        },
      )
