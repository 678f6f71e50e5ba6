-- Copies of a block that more than f correct replicas took, brought together, are taken.
use Rattle.ids.specs.declared.kind.Kind.{Kind}
use Rattle.ids.specs.declared.kind.Kind.TheVariants as kind
use Rattle.std.proofs.Common.{ℕ, suc, ◌≡◌, ◌<◌, ◌≤◌, ◌⊎◌, ◌&&◌, ◌==◌, not, true, false, List, [], ◌∷◌, map, length}
use Rattle.std.proofs.Common.{refl, sym, ap, subst, ◌∙◌, arith, inl, inr, nat_lt, nat_le}
use Rattle.std.specs.List.{AllByRecursion, list_all, list_any}
use Rattle.std.specs.Cmp.Lexicographic.{bytes_decides}
use Rattle.std.proofs.lemmas.List.{length-map}
use Rattle.std.proofs.lemmas.Bool.{and_from, or_left, cond-true, lt-ltb, le-leb, ltb-true, and_parts}
use Rattle.std.proofs.lemmas.Bool.{eqb-true, not_from_false}
use Rattle.std.proofs.lemmas.Bool.{cases_Bool}
use Rattle.ids.specs.Sizes.{Sizes, replicas}
use Rattle.definitions.specs.Bytes.{Bytes}
use Rattle.definitions.specs.Lists.{Among, AreDistinct}
use Rattle.definitions.specs.Branches.{Block, Branch, just1}
use Rattle.definitions.specs.Chronicles.{Admitted, Chronicle, Step.took_block, AreReplicas, taken_blocks, window}
use Rattle.definitions.specs.Digests.{digest, digest_of, core_of, AllKnown}
use Rattle.definitions.specs.Frames.{Core, Certificate, Frame, block_content, sender_of}
use Rattle.definitions.specs.Keyrings.{is_client_of, verify, tag_for, vector_for}
use Rattle.definitions.specs.Tags.{tag, tag_of}
use Rattle.definitions.proofs.Vectors.{tag_of-tags_for}
use Rattle.definitions.specs.Checks.{Identity, Findings, cut, findings}
use Rattle.definitions.specs.Grounds.{are_distinct, are_replicas}
use Rattle.definitions.specs.Rulings.{Input, Input.relayed_in, Ruling, Ruling.due, admitted, on_relay, ruling}
use Rattle.definitions.specs.Rulings.{votes_for}
use Rattle.definitions.specs.Sendings.{block_frame}
use Rattle.definitions.specs.States.{me}
use Rattle.definitions.specs.Trees.{Placing}
use Rattle.definitions.specs.Worlds.{World, is_replica, is_correct, is_party, self_of}
use Rattle.definitions.specs.Admission.{Checked.passes, when, is_copy, check_copies, check_gathered}
use Rattle.definitions.proofs.Lists.{any-found}
use Rattle.definitions.proofs.Chronicles.{taken-tree, taken-now}
use Rattle.definitions.proofs.Counts.{count-listed, count-within}
use Rattle.definitions.proofs.Horizons.{window-tree}
use Rattle.linear_law.proofs.Runs.{member-faulty}
use Rattle.linear_law.proofs.StoredFrames.{AreStored, IsStored, IsStoredBlock}
use Rattle.recovery.specs.Correct.{ShareKeys, chronicle_of}
use Rattle.recovery.specs.Fetching.{HasPlace, IsHolder, CopiesAreTaken}
use Rattle.recovery.proofs.Wells.{IsReached, reached, sound-of, known-of, stored-of, one-branch}
use Rattle.recovery.proofs.Places.{IsPlaced, placed}

-- ---- tags

pub correct-party : (w : World) (r : ℕ) → is_correct w r ≡ true → is_party w r ≡ true
correct-party w r c = or_left (is_replica w r) (is_client_of w.sizes r) (and_parts (is_replica w r) (not
    (w.is_faulty r)) c).0

-- what a correct party tags for a correct replica verifies there
pub tag-verifies : (w : World) → ShareKeys w → (label : Kind) (p u : ℕ) (content : Bytes) → is_party w p ≡ true
    → w.is_faulty p ≡ false → is_correct w u ≡ true
    → verify (w.ring u) label (w.ring p).party content (tag_for (w.ring p) label u content) ≡ true
unfolding verify tag_for
tag-verifies w keys label p u content party ok c =
    let own = keys.numbers p party ok in
    let its = keys.numbers u (correct-party w u c) (member-faulty w u c) in
    let key : (w.ring p).key u ≡ (w.ring u).key (w.ring p).party =
    sym (keys.keys u c p party ok) ∙ ap (w.ring u).key (sym own) in
    (bytes_decides _ _).1 (λ k. tag (key k) label (w.ring p).party (sym its k) content)

-- so does its tag in a vector
pub vector-verifies : (w : World) → ShareKeys w → (label : Kind) (p u : ℕ) (content : Bytes) → is_party w p ≡ true
    → w.is_faulty p ≡ false → is_correct w u ≡ true
    → verify (w.ring u) label p content (tag_of (vector_for w.sizes (w.ring p) label content) (w.ring u).party)
    ≡ true
vector-verifies w keys label p u content party ok c =
    let low = ltb-true u (replicas w.sizes) (and_parts (is_replica w u) (not (w.is_faulty u)) c).0 in
    let its = keys.numbers u (correct-party w u c) (member-faulty w u c) in
    let tag = ap (tag_of (vector_for w.sizes (w.ring p) label content)) its
    ∙ tag_of-tags_for (w.ring p) label content (replicas w.sizes) u low in
    ap (λ (t : Bytes). verify (w.ring u) label p content t) tag
    ∙ (ap (λ (n : ℕ). verify (w.ring u) label n content (tag_for (w.ring p) label u content))
    (sym (keys.numbers p party ok)) ∙ tag-verifies w keys label p u content party ok c)

-- ---- the steps of a chronicle

-- what a replica took is stored
pub taken-stored : (self : Identity) (c : Chronicle) → AreStored self c → (a : Admitted)
    → Among a (taken_blocks c) → IsStoredBlock self a
unfolding taken_blocks
taken-stored self [] st a m = absurd m
taken-stored self (s ∷ c) st a m = elim (taken-now s c a m) [
  | inl now ↦ subst (IsStored self) now.0 st.0
  | inr k ↦ taken-stored self c st.1 a k
]

-- ---- numbers of replicas

none-same : (x : ℕ) (xs : List ℕ) → (Among x xs → ⊥) → list_any (λ y. y == x) xs ≡ false
none-same x xs h =
    elim (cases_Bool (list_any (λ y. y == x) xs)) [
      | inl t ↦ absurd (let r = any-found (λ (y : ℕ). y == x) xs t in
          h (subst (λ (z : ℕ). Among z xs) (eqb-true r.0 x r.2) r.1))
      | inr f ↦ f
    ]

distinct-to : (xs : List ℕ) → AreDistinct xs → are_distinct xs ≡ true
unfolding are_distinct
distinct-to [] d = refl
distinct-to (x ∷ xs) d = and_from _ _ (not_from_false _ (none-same x xs d.0)) (distinct-to xs d.1)

below-to : (n : ℕ) (xs : List ℕ) → AllByRecursion (λ v. v < n) xs → list_all (λ v. nat_lt v n) xs ≡ true
below-to n [] h = refl
below-to n (x ∷ xs) h = and_from _ _ (lt-ltb x n h.0) (below-to n xs h.1)

pub replicas-to : (s : Sizes) (least : ℕ) (vs : List ℕ) → AreReplicas s least vs → are_replicas s least vs ≡ true
unfolding are_replicas
replicas-to s least vs h =
    and_from _ _ (distinct-to vs h.0)
    (and_from _ _ (below-to (replicas s) vs h.1) (le-leb least (length vs) h.2))

-- ---- copies

abbrev pub copies-of : World → ℕ → List (ℕ × Admitted) → List Frame
copies-of w u holders = map (λ h. block_frame (self_of w h.0) u h.1) holders

-- a ruling by which a replica takes the block without a vote, whether it is new or stands there
abbrev pub TakesOnly : Chronicle → Branch → Ruling → Type 0
TakesOnly c x r =
    (a : Admitted) × (r ≡ due (took_block a)) × (a.branch ≡ x) × (a.voted ≡ false)
    × ((a.new ≡ true) ⊎ ((a.new ≡ false) × Among x (window c)))

-- a replica that gathers a block with a place takes it from enough senders
relay-taken : (self : Identity) (c : Chronicle) (senders : List ℕ) (core : Core) (q : Certificate) (f : Findings)
    (x : Branch) → are_replicas self.sizes (suc self.sizes.faults) senders ≡ true → (place : Placing)
    → IsPlaced c x place → TakesOnly c x (on_relay self senders core q f c place)
unfolding on_relay admitted votes_for
relay-taken self c senders core q f x enough place (inl (e, m)) =
    subst (λ (p : Placing). TakesOnly c x (on_relay self senders core q f c p)) (sym e)
    (_, refl, refl, refl, inr (refl, m))
relay-taken self c senders core q f x enough place (inr e) =
    subst (λ (p : Placing). TakesOnly c x (on_relay self senders core q f c p)) (sym e)
    (_, cond-true _ _ _ enough, refl, refl, inl refl)

-- a copy of the block x, by a correct replica, with a certificate of this digest, is one
copy-passes : (w : World) → ShareKeys w → (u : ℕ) → is_correct w u ≡ true → (x : Branch) (q : Certificate)
    (h : ℕ × Admitted) → IsHolder w x h → h.1.certificate.digest ≡ q.digest
    → is_copy (self_of w u) (core_of x) q (block_frame (self_of w h.0) u h.1) ≡ true
unfolding is_copy block_frame cut
copy-passes w keys u c x q h held e =
    let core : Core = core_of h.1.branch in
    let k : Certificate = cut (self_of w h.0) h.1.certificate in
    and_from _ _
    (tag-verifies w keys kind.Block h.0 u (block_content (me (self_of w h.0)) core k)
    (correct-party w h.0 held.0) (member-faulty w h.0 held.0) c)
    (and_from _ _ ((bytes_decides (digest core) (digest (core_of x))).1 (ap (λ (z : Branch). digest
    (core_of z)) held.2))
    ((bytes_decides k.digest q.digest).1 e))

-- what a correct replica took has a certificate for what it justifies
pub holder-certificate : (Known : Core → Type 0) (w : World) → IsReached Known w → (x : Branch) (h : ℕ × Admitted)
    → IsHolder w x h → h.1.certificate.digest ≡ digest_of (just1 x)
holder-certificate Known w g x h held =
    (taken-stored (self_of w h.0) (chronicle_of w h.0) (stored-of Known w g h.0 held.0) h.1 held.1).justified
    ∙ ap (λ (z : Branch). digest_of (just1 z)) held.2

-- so all of them are
copies-pass : (Known : Core → Type 0) (w : World) → IsReached Known w → ShareKeys w → (u : ℕ)
    → is_correct w u ≡ true → (x : Branch) (q : Certificate) → q.digest ≡ digest_of (just1 x)
    → (hs : List (ℕ × Admitted)) → AllByRecursion (IsHolder w x) hs
    → list_all (is_copy (self_of w u) (core_of x) q) (copies-of w u hs) ≡ true
copies-pass Known w g keys u c x q e [] held = refl
copies-pass Known w g keys u c x q e (h ∷ hs) held =
    and_from _ _ (copy-passes w keys u c x q h held.0 (holder-certificate Known w g x h held.0 ∙ sym e))
    (copies-pass Known w g keys u c x q e hs held.1)

-- their senders are the holders
senders-are : (w : World) → ShareKeys w → (u : ℕ) (x : Branch) (hs : List (ℕ × Admitted))
    → AllByRecursion (IsHolder w x) hs → map (sender_of w.sizes) (copies-of w u hs) ≡ map (λ h. h.0) hs
unfolding block_frame
senders-are w keys u x [] held = refl
senders-are w keys u x (h ∷ hs) held =
    λ k. keys.numbers h.0 (correct-party w h.0 held.0.0) (member-faulty w h.0 held.0.0) k
    ∷ senders-are w keys u x hs held.1 k

holders-below : (w : World) (x : Branch) (hs : List (ℕ × Admitted)) → AllByRecursion (IsHolder w x) hs
    → AllByRecursion (λ v. v < replicas w.sizes) (map (λ h. h.0) hs)
holders-below w x [] held = tt
holders-below w x (h ∷ hs) held = (
  ltb-true h.0 (replicas w.sizes) (and_parts (is_replica w h.0) (not (w.is_faulty h.0)) held.0.0).0,
  holders-below w x hs held.1,
)

-- distinct replicas are no more than there are
few-replicas : (n : ℕ) (xs : List ℕ) → AreDistinct xs → AllByRecursion (λ v. v < n) xs → length xs ≤ n
few-replicas n xs d b =
    let k = count-listed n (λ v. true) xs d b (λ v m. refl) in
    let l = count-within n (λ v. true) in
    omega (arith, k, l)

-- what a first copy and the others come to
unfoldable pub gathered-input : World → ℕ → Branch → Certificate → List (ℕ × Admitted) → Input
gathered-input w u x q hs =
    relayed_in (map (sender_of w.sizes) (copies-of w u hs)) (core_of x) q (findings (self_of w u) (core_of x) q)

pub copies-checked : (Known : Core → Type 0) (w : World) → IsReached Known w → ShareKeys w → (u : ℕ)
    → is_correct w u ≡ true → (x : Branch) (h : ℕ × Admitted) (hs : List (ℕ × Admitted))
    → AllByRecursion (IsHolder w x) (h ∷ hs) → AreDistinct (map (λ y. y.0) (h ∷ hs))
    → check_gathered (self_of w u) (copies-of w u (h ∷ hs))
    ≡ passes (gathered-input w u x (cut (self_of w h.0) h.1.certificate) (h ∷ hs))
unfolding check_gathered check_copies block_frame cut gathered-input
copies-checked Known w g keys u c x h hs held distinct =
    let self = self_of w u in
    let q : Certificate = cut (self_of w h.0) h.1.certificate in
    let few = few-replicas (replicas w.sizes) (map (λ y. y.0) (h ∷ hs)) distinct (holders-below w x (h ∷ hs) held) in
    let long = length-map (h ∷ hs) (λ (y : ℕ × Admitted). block_frame (self_of w y.0) u y.1) in
    let same = length-map (h ∷ hs) (λ (y : ℕ × Admitted). y.0) in
    let core : core_of h.1.branch ≡ core_of x = ap core_of held.0.2 in
    subst (λ (k : Core).
    when (nat_le (length (copies-of w u (h ∷ hs))) (replicas w.sizes)
    && list_all (is_copy self k q) (copies-of w u (h ∷ hs)))
    (relayed_in (map (sender_of w.sizes) (copies-of w u (h ∷ hs))) k q (findings self k q))
    ≡ passes (gathered-input w u x q (h ∷ hs))) (sym core)
    (cond-true _ _ _ (and_from _ _ (le-leb _ (replicas w.sizes) (omega (arith, few, long, same)))
    (copies-pass Known w g keys u c x q (holder-certificate Known w g x h held.0) (h ∷ hs) held)))

-- the copies pass, and come to such a ruling
pub record IsGathered (w : World) (u : ℕ) (fs : List Frame) (x : Branch) : Type 0 where
  pub input : Input
  pub passing : check_gathered (self_of w u) fs ≡ passes input
  pub takes : TakesOnly (chronicle_of w u) x (ruling (self_of w u) input (chronicle_of w u))

-- so the block is taken
pub gathered-taken : (Known : Core → Type 0) (w : World) → IsReached Known w → ShareKeys w → (u : ℕ)
    → is_correct w u ≡ true → (b : Block) (parent : Branch) (hs : List (ℕ × Admitted))
    → HasPlace (chronicle_of w u) b parent → AreDistinct (map (λ h. h.0) hs)
    → AllByRecursion (IsHolder w (b ∷ parent)) hs → w.sizes.faults < length hs
    → IsGathered w u (copies-of w u hs) (b ∷ parent)
unfolding ruling gathered-input cut
gathered-taken Known w g keys u c b parent [] place distinct held more = absurd (omega (arith, more))
gathered-taken Known w g keys u c b parent (h ∷ hs) place distinct held more =
    let x : Branch = b ∷ parent in
    let q : Certificate = cut (self_of w h.0) h.1.certificate in
    let senders : List ℕ = map (sender_of w.sizes) (copies-of w u (h ∷ hs)) in
    let who = senders-are w keys u x (h ∷ hs) held in
    let same = length-map (h ∷ hs) (λ (y : ℕ × Admitted). y.0) in
    let enough : AreReplicas w.sizes (suc w.sizes.faults) senders =
    subst (AreReplicas w.sizes (suc w.sizes.faults)) (sym who)
    (distinct, holders-below w x (h ∷ hs) held, omega (arith, more, same)) in
    let known : AllKnown Known x =
    subst (AllKnown Known) held.0.2
    (known-of Known w g h.0 held.0.0 h.1.branch (taken-tree (chronicle_of w h.0) h.1 held.0.1)) in
    let place_of = placed (chronicle_of w u) b parent q (sound-of Known w g u c).is_tree place
    (holder-certificate Known w g x h held.0)
    (λ y m e. one-branch Known w g y x (known-of Known w g u c y (window-tree (chronicle_of w u) y m)) known e) in
    let r = relay-taken (self_of w u) (chronicle_of w u) senders (core_of x) q (findings (self_of w u) (core_of x) q) x
    (replicas-to w.sizes (suc w.sizes.faults) senders enough) _ place_of in
    record {
      input = gathered-input w u x q (h ∷ hs);
      passing = copies-checked Known w g keys u c x h hs held distinct;
      takes = r;
    }

pub copies-taken : CopiesAreTaken
copies-taken sizes is_faulty ring hs last met e =
    λ keys u c b parent holders place distinct held more.
    let r = gathered-taken _ last
    (reached sizes is_faulty ring hs last met e) keys u c b parent holders place distinct held more in
    (r.input, r.takes.0, r.passing, r.takes.1, r.takes.2)
