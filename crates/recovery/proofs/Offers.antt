-- A leader's blocks are offered to a replica, one after the other.
use Rattle.ids.specs.declared.limits.TheConstants.{HEIGHT_LIMIT}
use Rattle.std.proofs.Common.{ℕ, zero, suc, ◌≡◌, ◌<◌, ◌≤◌, ◌+◌, ◌==◌, ◌&&◌, ◌||◌, not, Bool, true, false}
use Rattle.std.proofs.Common.{cond, List, [], ◌∷◌}
use Rattle.std.proofs.Common.{◌++◌, map, length, refl, sym, ap, subst, ◌∙◌, arith, inl, inr, nat_lt, Option, Some, None}
use Rattle.std.proofs.Common.{option_map, slice_get}
use Rattle.std.specs.List.{list_all}
use Rattle.std.proofs.lemmas.Bool.{cond-true, cond-false, cond_both, and_parts, eq-eqb, ne_eqb, lt-ltb, cases_lt}
use Rattle.std.proofs.lemmas.List.{append-nil, append_assoc}
use Rattle.ids.specs.Sizes.{Sizes, leader}
use Rattle.definitions.specs.Lists.{Among}
use Rattle.definitions.specs.Branches.{Block, Branch, just1, IsBranch, Extends}
use Rattle.definitions.specs.Checks.{Identity, command_verifies}
use Rattle.definitions.specs.Chronicles.{Admitted, Chronicle, Step, Step.took_block, voted_blocks, vheight}
use Rattle.definitions.specs.Chronicles.{standing_blocks}
use Rattle.definitions.specs.Frames.{Frame}
use Rattle.definitions.specs.Grounds.{is_justified, is_own_certified}
use Rattle.definitions.specs.Sendings.{sendings, proposal_frame}
use Rattle.definitions.specs.States.{Justified, votes, raised, fills, higher, qc_high}
use Rattle.definitions.specs.Trees.{clear_above}
use Rattle.definitions.specs.Replicas.{MemorySupply.ample, Replica, Standing.running}
use Rattle.definitions.specs.Worlds.{World, Sent, Event.offer, Happening, Source.of_record, is_correct, is_replica}
use Rattle.definitions.specs.Worlds.{self_of}
use Rattle.definitions.specs.Runs.{refusal, after}
use Rattle.definitions.specs.Events.{happens, recorded}
use Rattle.definitions.proofs.Lists.{Among-before}
use Rattle.definitions.proofs.Branches.{Extends-trans}
use Rattle.definitions.proofs.Chronicles.{voted-grows}
use Rattle.recovery.specs.Correct.{OfCorrect, ShareKeys, chronicle_of, amply}
use Rattle.recovery.specs.Rounds.{IsProposalOf, Climbs}
use Rattle.recovery.proofs.Asked.{offer-hands}
use Rattle.recovery.proofs.Climbing.{next-place, climb-more, voted-low, voted-now}
use Rattle.recovery.proofs.Decided.{justifies-below}
use Rattle.recovery.proofs.Locks.{safe-over}
use Rattle.recovery.proofs.Marks.{stands-clear}
use Rattle.recovery.proofs.Proposals.{MayVote, proposal-known}
use Rattle.recovery.proofs.Steps.{going, outs, TookStep, step-stood}
use Rattle.recovery.proofs.Ways.{IsOnWay, KnownAt, on-way, way-on}
use Rattle.recovery.proofs.Worlds.{IsMadeAs, made-both, keys-in, same-correct, same-self, Passes, passes-none}
use Rattle.recovery.proofs.Worlds.{passes-one}
use Rattle.recovery.proofs.Worlds.{named}

-- ---- worlds that go on

-- the same parties and keys, and a longer record
pub record GoesOn (w next : World) : Type 0 where
  pub made : IsMadeAs w next
  pub more : List Sent
  pub sent : next.sent ≡ w.sent ++ more
  pub session : next.session ≡ w.session

unfoldable pub goes-none : (w : World) → GoesOn w w
goes-none w = record {
  made = record { sizes = refl; faulty = refl; ring = refl };
  more = [];
  sent = sym (append-nil w.sent);
  session = refl;
}

unfoldable pub goes-both : (w mid last : World) → GoesOn w mid → GoesOn mid last → GoesOn w last
goes-both w mid last h k = record {
  made = made-both w mid last h.made k.made;
  more = h.more ++ k.more;
  sent = k.sent ∙ (ap (λ (l : List Sent). l ++ k.more) h.sent ∙ append_assoc w.sent h.more k.more);
  session = k.session ∙ h.session;
}

-- what was recorded stays at its number
pub sent-later : (xs ys : List Sent) (k : ℕ) (s : Sent) → slice_get xs k ≡ Some s → slice_get (xs ++ ys) k ≡ Some s
sent-later [] ys k s e = absurd (none e)
  where
    none : None ≡ Some s → ⊥
    none h = cc
sent-later (x ∷ xs) ys zero s e = e
sent-later (x ∷ xs) ys (suc k) s e = sent-later xs ys k s e

-- so does its frame
pub slice-later : (xs ys : List Sent) (k : ℕ) (f : Frame) → option_map (λ s. s.frame) (slice_get xs k) ≡ Some f
    → option_map (λ s. s.frame) (slice_get (xs ++ ys) k) ≡ Some f
slice-later xs ys k f e = by (slice_get xs k) refl e
  where
    by : (o : Option Sent) → slice_get xs k ≡ o → option_map (λ s. s.frame) o ≡ Some f
        → option_map (λ s. s.frame) (slice_get (xs ++ ys) k) ≡ Some f
    by (Some s) i h = ap (λ (o : Option Sent). option_map (λ z. z.frame) o) (sent-later xs ys k s i) ∙ h
    by None i h = absurd (none h)
      where
        none : None ≡ Some f → ⊥
        none q = cc

pub recorded-later : (w next : World) → GoesOn w next → (k : ℕ) (f : Frame) → recorded w k ≡ Some f
    → recorded next k ≡ Some f
recorded-later w next g k f e =
    ap (λ (l : List Sent). option_map (λ s. s.frame) (slice_get l k)) g.sent ∙ slice-later w.sent g.more k f e

-- and stands below the record's length
pub slice-there : (xs : List Sent) (k : ℕ) (f : Frame) → option_map (λ s. s.frame) (slice_get xs k) ≡ Some f
    → k < length xs
slice-there [] k f e = absurd (none e)
  where
    none : None ≡ Some f → ⊥
    none h = cc
slice-there (x ∷ xs) zero f e = omega arith
slice-there (x ∷ xs) (suc k) f e = let h = slice-there xs k f e in omega (arith, h)

-- ---- a leader's blocks

-- a frame is a correct leader's proposal of a block over y that justifies m, and whose commands all find right
pub record IsMade (w : World) (v : ℕ) (m y : Branch) (b : Block) (f : Frame) : Type 0 where
  pub proposal : IsProposalOf w v b y f
  pub justify : b.justify ≡ length m
  pub good : OfCorrect w (λ r. list_all (command_verifies (self_of w r)) b.commands ≡ true)

-- a proposal stays one
pub proposal-later : (w next : World) → GoesOn w next → (v : ℕ) (b : Block) (y : Branch) (f : Frame)
    → (p : IsProposalOf w v b y f) → (q : IsProposalOf next v b y f) × (q.made ≡ p.made)
proposal-later w next g v b y f p =
    let l = ap (λ (s : Sizes). leader s v) g.made.sizes in (
      record {
        correct = ap (is_correct next) l ∙ (same-correct w next g.made (leader w.sizes v) ∙ p.correct);
        sent = p.sent;
        recorded = subst (λ (r : List Sent). Among p.sent r) (sym g.sent)
            (Among-before p.sent w.sent g.more p.recorded);
        made = p.made;
        is = p.is ∙ ((λ k. proposal_frame (sym (same-self w next g.made (leader w.sizes v)) k) v p.made)
            ∙ ap (λ (i : ℕ). proposal_frame (self_of next i) v p.made) (sym l));
        frame_is = p.frame_is;
        block_is = p.block_is;
        justified = p.justified;
      },
      refl,
    )

-- so does such a one
pub made-later : (w next : World) → GoesOn w next → (v : ℕ) (m y : Branch) (b : Block) (f : Frame)
    → IsMade w v m y b f → IsMade next v m y b f
made-later w next g v m y b f h = record {
  proposal = (proposal-later w next g v b y f h.proposal).0;
  justify = h.justify;
  good = λ r c. ap (λ (s : Identity). list_all (command_verifies s) b.commands) (same-self w next g.made r)
      ∙ h.good r (sym (same-correct w next g.made r) ∙ c);
}

-- a chain of them by their numbers, from y up to this block
unfoldable pub Chain : World → ℕ → Branch → Branch → List ℕ → Branch → Type 0
Chain w v m y [] last = y ≡ last
Chain w v m y (k ∷ ks) last =
    (b : Block) × (f : Frame) × (recorded w k ≡ Some f) × IsMade w v m y b f × Chain w v m (b ∷ y) ks last

pub chain-later : (w next : World) → GoesOn w next → (v : ℕ) (m y : Branch) (ks : List ℕ) (last : Branch)
    → Chain w v m y ks last → Chain next v m y ks last
unfolding Chain
chain-later w next g v m y [] last h = h
chain-later w next g v m y (k ∷ ks) last (b, f, e, i, h) = (
  b,
  f,
  recorded-later w next g k f e,
  made-later w next g v m y b f i,
  chain-later w next g v m (b ∷ y) ks last h,
)

-- it goes up
pub chain-up : (w : World) (v : ℕ) (m y : Branch) (ks : List ℕ) (last : Branch) → Chain w v m y ks last
    → length last ≡ length y + length ks
unfolding Chain
chain-up w v m y [] last h = let k = ap (λ (x : Branch). length x) h in omega (arith, k)
chain-up w v m y (k ∷ ks) last (b, f, e, i, h) = let r = chain-up w v m (b ∷ y) ks last h in omega (arith, r)

-- an empty one ends where it begins
pub chain-end : (w : World) (v : ℕ) (m y : Branch) (ks : List ℕ) (last : Branch) → Chain w v m y ks last
    → length ks ≡ 0 → y ≡ last
unfolding Chain
chain-end w v m y [] last h z = h
chain-end w v m y (k ∷ ks) last h z = absurd (omega (arith, z))

-- it goes through where it begins
pub chain-through : (w : World) (v : ℕ) (m y : Branch) (ks : List ℕ) (last : Branch) → Chain w v m y ks last
    → Extends last y
unfolding Chain
chain-through w v m y [] last h = ([], h)
chain-through w v m y (k ∷ ks) last (b, f, e, i, h) =
    Extends-trans last (b ∷ y) y (chain-through w v m (b ∷ y) ks last h) (b ∷ [], refl)

-- and its last block justifies m
pub chain-justifies : (w : World) (v : ℕ) (m y : Branch) (ks : List ℕ) (last : Branch) → Chain w v m y ks last
    → Extends y m → 0 < length ks → just1 last ≡ m
unfolding Chain
chain-justifies w v m y [] last h over p = absurd (omega (arith, p))
chain-justifies w v m y (k ∷ ks) last (b, f, e, i, h) over p = elim (cases_lt 0 (length ks)) [
  | inl q ↦ chain-justifies w v m (b ∷ y) ks last h (b ∷ over.0, ap (λ (l : Branch). b ∷ l) over.1) q
  | inr z ↦ ap just1 (sym (chain-end w v m (b ∷ y) ks last h (omega (arith, z))))
      ∙ justifies-below b y m over i.justify
]

-- ---- one offer

-- what a block that is offered leaves
pub record IsOffered (w next : World) (r v : ℕ) (m y : Branch) (room : ℕ) (b : Block) : Type 0 where
  pub taken : Admitted
  pub step : TookStep w next r (took_block taken)
  pub branch : taken.branch ≡ b ∷ y
  pub climbs : Climbs (self_of w r) v m (b ∷ y) room (took_block taken ∷ chronicle_of w r)
  pub votes : vheight (chronicle_of w r) < suc (length y) → taken.voted ≡ true

module _ (sizes : Sizes) (start : World) (all : List Happening) where
  pub offer-one : (w : World) (rest : List Happening) (r k v : ℕ) (m y : Branch) (room : ℕ) (b : Block) (f : Frame)
      → IsOnWay sizes start all w ((offer r (of_record k), ample) ∷ rest) → ShareKeys w → is_correct w r ≡ true
      → (w.replica r).standing ≡ running → recorded w k ≡ Some f → IsMade w v m y b f
      → Climbs (self_of w r) v m y (suc room) (chronicle_of w r) → IsBranch m → suc (length y) < HEIGHT_LIMIT
      → (refusal w (offer r (of_record k)) ≡ None)
      × IsOffered w (happens w (offer r (of_record k), ample)) r v m y room b
  offer-one w rest r k v m y room b f on keys c s rec made climbs br low =
      let self : Identity = self_of w r in
      let ch : Chronicle = chronicle_of w r in
      let g = on-way sizes start all w ((offer r (of_record k), ample) ∷ rest) on in
      let ok : refusal w (offer r (of_record k)) ≡ None =
      named w (offer r (of_record k)) (and_parts (is_replica w r) (not (w.is_faulty r)) c).0
      (lt-ltb k (length w.sent) (slice-there w.sent k f rec)) refl in
      let over : just1 (b ∷ y) ≡ m = justifies-below b y m climbs.over made.justify in
      let good = made.good r c in
      let there = stands-clear self ch (g.ruled r c) b y good in
      let shown = proposal-known (KnownAt sizes start all) w g keys r v c b y f made.proposal
      (next-place self v m y room ch b climbs made.justify low)
      (elim climbs.ground [
        | inl j ↦ inl (ap (λ (x : Branch). is_justified x ch) over ∙ j)
        | inr o ↦ inr (ap (λ (x : Branch). is_own_certified self x ch) over ∙ o)
      ]) in
      let t = shown.takes in
      let onn = way-on sizes start all w (offer r (of_record k), ample) rest on ok in
      let may : vheight ch < suc (length y) → MayVote w r v b y = λ h. record {
        in_view = climbs.in_view;
        safe = safe-over ch m (b ∷ y) climbs.safe over h;
        commands = good;
        clear_below = ap (λ (n : ℕ). clear_above n y (standing_blocks ch)) made.justify ∙ climbs.clear;
        clear_there = there;
      } in (
        ok,
        record {
          taken = t.0;
          step = step-stood w (offer r (of_record k)) r shown.input (took_block t.0)
              (offer-hands w k r f shown.input c s rec shown.offered) t.1 onn.well.good.answers;
          branch = t.2;
          climbs = climb-more self v m y room ch b t.0 climbs br made.justify t.2 t.4 good there;
          votes = λ h. t.3 (may h);
        },
      )

-- ---- what is still

-- the kept votes are the same; the highest certificate is no higher than it was, or than m; and what was voted for is
-- no higher than before, or than this
pub record IsStill (s : Sizes) (m : Branch) (top : ℕ) (before now : Chronicle) : Type 0 where
  pub votes_are : (x : Branch) → votes s x now ≡ votes s x before
  pub low : (n : ℕ) → length m < n → length (qc_high s before).block < n → length (qc_high s now).block < n
  pub voted_low : (n : ℕ) → top < n → vheight before < n → vheight now < n

pub still-none : (s : Sizes) (m : Branch) (top : ℕ) (c : Chronicle) → IsStill s m top c c
still-none s m top c = record { votes_are = λ x. refl; low = λ n h k. k; voted_low = λ n h k. k }

pub still-both : (s : Sizes) (m : Branch) (top : ℕ) (a b c : Chronicle) → IsStill s m top a b → IsStill s m top b c
    → IsStill s m top a c
still-both s m top a b c h k = record {
  votes_are = λ x. k.votes_are x ∙ h.votes_are x;
  low = λ n l i. k.low n l (h.low n l i);
  voted_low = λ n l i. k.voted_low n l (h.voted_low n l i);
}

pub still-wider : (s : Sizes) (m : Branch) (top more : ℕ) (a b : Chronicle) → top ≤ more → IsStill s m top a b
    → IsStill s m more a b
still-wider s m top more a b l h = record {
  votes_are = h.votes_are;
  low = h.low;
  voted_low = λ n k i. h.voted_low n (omega (arith, l, k)) i;
}

pub still-took : (s : Sizes) (m : Branch) (top : ℕ) (c : Chronicle) (a : Admitted) → just1 a.branch ≡ m
    → length a.branch ≤ top → IsStill s m top c (took_block a ∷ c)
unfolding votes qc_high raised
still-took s m top c a e t = record {
  votes_are = λ x. refl;
  low = λ n h k. by a.new n h k;
  voted_low = λ n h k. voted-low c a n k (omega (arith, h, t));
}
  where
    p : Justified
    p = record { block = just1 a.branch; certificate = a.certificate }

    by : (t : Bool) (n : ℕ) → length m < n → length (qc_high s c).block < n
        → length (higher true (cond t (Some p) None) (qc_high s c)).block < n
    by true n h k = cond_both (nat_lt (length (qc_high s c).block) (length p.block) || (true && fills p (qc_high s c)))
        p (qc_high s c) (λ (j : Justified). length j.block < n)
        (λ t. let l = ap (λ (z : Branch). length z) e in omega (arith, h, l)) (λ t. k)
    by false n h k = k

-- ---- all offers to one replica

-- room for the blocks of a list, and so many more
unfoldable pub grown : List ℕ → ℕ → ℕ
grown [] room = room
grown (k ∷ ks) room = suc (grown ks room)

pub grown-is : (ks : List ℕ) (room : ℕ) → grown ks room ≡ length ks + room
unfolding grown
grown-is [] room = omega arith
grown-is (k ∷ ks) room = let h = grown-is ks room in omega (arith, h)

pub record OfferedAll (w next : World) (r v : ℕ) (m last : Branch) (room : ℕ) (ks : List ℕ) : Type 0 where
  pub goes : GoesOn w next
  pub others : (j : ℕ) → (j ≡ r → ⊥) → next.replica j ≡ w.replica j
  pub going_on : (next.replica r).standing ≡ running
  pub climbs : Climbs (self_of w r) v m last room (chronicle_of next r)
  pub voted : vheight (chronicle_of w r) < length last → 0 < length ks
      → Among last (voted_blocks (chronicle_of next r))
  pub kept : (x : Branch) → Among x (voted_blocks (chronicle_of w r)) → Among x (voted_blocks (chronicle_of next r))
  pub still : IsStill w.sizes m (length last) (chronicle_of w r) (chronicle_of next r)

-- the events
unfoldable pub offers-of : ℕ → List ℕ → List Happening
offers-of r ks = amply (map (λ k. offer r (of_record k)) ks)

-- the world after an offer that was taken
pub offer-goes : (w next : World) (r : ℕ) (st : Step) → TookStep w next r st → GoesOn w next
offer-goes w next r st t = record {
  made = t.made;
  more = outs w r (sendings (self_of w r) st (chronicle_of w r));
  sent = t.sent;
  session = t.session;
}

pub row-own : (w next : World) (r : ℕ) (st : Step) → TookStep w next r st
    → next.replica r ≡ going (st ∷ chronicle_of w r)
row-own w next r st t =
    ap (λ (row : ℕ → Replica). row r) t.row
    ∙ cond-true (r == r) (going (st ∷ chronicle_of w r)) (w.replica r) (eq-eqb r r refl)

pub row-other : (w next : World) (r : ℕ) (st : Step) → TookStep w next r st → (j : ℕ) → (j ≡ r → ⊥)
    → next.replica j ≡ w.replica j
row-other w next r st t j n =
    ap (λ (row : ℕ → Replica). row j) t.row
    ∙ cond-false (j == r) (going (st ∷ chronicle_of w r)) (w.replica j) (ne_eqb j r n)

module _ (sizes : Sizes) (start : World) (all : List Happening) (r v : ℕ) (m last : Branch) (br : IsBranch m)
    (top : length last < HEIGHT_LIMIT) where
  pub offers-all : (ks : List ℕ) (w : World) (rest : List Happening) (y : Branch) (room : ℕ)
      → IsOnWay sizes start all w (offers-of r ks ++ rest) → ShareKeys w → is_correct w r ≡ true
      → (w.replica r).standing ≡ running → Chain w v m y ks last
      → Climbs (self_of w r) v m y (grown ks room) (chronicle_of w r)
      → Passes w (offers-of r ks) × OfferedAll w (after w (offers-of r ks)) r v m last room ks
  unfolding offers-of Chain grown after
  offers-all [] w rest y room on keys c s chain climbs = (
    passes-none w,
    record {
      goes = goes-none w;
      others = λ j n. refl;
      going_on = s;
      climbs = subst (λ (z : Branch). Climbs (self_of w r) v m z room (chronicle_of w r)) chain climbs;
      voted = λ h n. absurd (omega (arith, n));
      kept = λ x n. n;
      still = still-none w.sizes m (length last) (chronicle_of w r);
    },
  )
  offers-all (k ∷ ks) w rest y room on keys c s (b, f, rec, made, chain) climbs =
      let next : World = happens w (offer r (of_record k), ample) in
      let up = chain-up w v m (b ∷ y) ks last chain in
      let one = offer-one sizes start all w (offers-of r ks ++ rest) r k v m y (grown ks room) b f on keys c s rec made
      climbs br (omega (arith, up, top)) in
      let o = one.1 in
      let goes = offer-goes w next r (took_block o.taken) o.step in
      let own = row-own w next r (took_block o.taken) o.step in
      let ownc = ap (λ (x : Replica). x.chronicle) own in
      let self1 = same-self w next goes.made r in
      let onn = way-on sizes start all w (offer r (of_record k), ample) (offers-of r ks ++ rest) on one.0 in
      let climbs1 : Climbs (self_of next r) v m (b ∷ y) (grown ks room) (chronicle_of next r) =
      (subst (λ (z : Chronicle). Climbs (self_of next r) v m (b ∷ y) (grown ks room) z) (sym ownc)
      (subst (λ (s : Identity). Climbs s v m (b ∷ y) (grown ks room) (took_block o.taken ∷ chronicle_of w r))
      (sym self1) o.climbs)) in
      let more = offers-all ks next rest (b ∷ y) room onn (keys-in w next goes.made keys)
      (same-correct w next goes.made r ∙ c) (ap (λ (x : Replica). x.standing) own)
      (chain-later w next goes v m (b ∷ y) ks last chain) climbs1 in
      let end : World = after next (offers-of r ks) in (
        passes-one w (offer r (of_record k), ample) (offers-of r ks) one.0 more.0,
        record {
          goes = goes-both w next end goes more.1.goes;
          others = λ j n. more.1.others j n ∙ row-other w next r (took_block o.taken) o.step j n;
          going_on = more.1.going_on;
          climbs = subst (λ (s : Identity). Climbs s v m last room (chronicle_of end r)) self1 more.1.climbs;
          voted = λ h n. elim (cases_lt 0 (length ks)) [
            | inl p ↦ more.1.voted (subst (λ (z : Chronicle). vheight z < length last) (sym ownc)
                (voted-low (chronicle_of w r) o.taken (length last) h
                (let e = ap (λ (z : Branch). length z) o.branch in omega (arith, e, up, p)))) p
            | inr z ↦
                let e = chain-end w v m (b ∷ y) ks last chain (omega (arith, z)) in
                more.1.kept last (subst (λ (x : Chronicle). Among last (voted_blocks x)) (sym ownc)
                (voted-now (chronicle_of w r) o.taken last (o.branch ∙ e)
                (o.votes (let i = ap (λ (x : Branch). length x) e in omega (arith, h, i)))))
          ];
          kept = λ x n. more.1.kept x (subst (λ (z : Chronicle). Among x (voted_blocks z)) (sym ownc)
              (voted-grows (took_block o.taken) (chronicle_of w r) x n));
          still = still-both w.sizes m (length last) (chronicle_of w r) (chronicle_of next r) (chronicle_of end r)
              (subst (IsStill w.sizes m (length last) (chronicle_of w r)) (sym ownc)
              (still-took w.sizes m (length last) (chronicle_of w r) o.taken
              (ap just1 o.branch ∙ justifies-below b y m climbs.over made.justify)
              (let e = ap (λ (z : Branch). length z) o.branch in omega (arith, e, up))))
              (subst (λ (z : Sizes). IsStill z m (length last) (chronicle_of next r)
              (chronicle_of end r)) goes.made.sizes
              more.1.still);
        },
      )
