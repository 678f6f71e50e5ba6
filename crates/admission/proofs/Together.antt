-- Frames that come together, one after the other.
use Rattle.std.proofs.Common.{ℕ, ◌≡◌, ◌≤◌, ◌<◌, ◌+◌, ◌++◌, ◌&&◌, Bool, true, false, List, [], ◌∷◌, map}
use Rattle.std.proofs.Common.{length, refl, sym, ap, subst, ◌∙◌, arith, nat_lt, nat_le, length-append, Option}
use Rattle.std.proofs.Common.{take, get_or, add-one}
use Rattle.std.proofs.Common.{Result, Ok, Err}
use Rattle.std.proofs.Math.Bool.{and-false, and-true}
use Rattle.std.proofs.Math.Seq.{take-suc}
use Rattle.std.proofs.lemmas.Bool.{le-leb, lt-leb, and_from, and_parts, ltb-true, ltb-false}
use Rattle.std.proofs.lemmas.List.{append-nil, length-map, map-append, take_all}
use Rattle.std.proofs.lemmas.List.Folds.{list_all-append}
use Rattle.std.proofs.lemmas.Slice.Eq.{bytes_eq-Decides}
use Rattle.std.specs.Prelude.{IsTrue}
use Rattle.std.specs.List.{list_all, flat_map}
use Rattle.std.specs.Borrow.{Bor}
use Rattle.std.proofs.lemmas.Grind.{flat_map-append}
use Rattle.std.specs.Str.{bytes_eq}
use Rattle.ids.specs.declared.fault.Fault.{Fault}
use Rattle.ids.specs.declared.fault.Fault.TheVariants as fault
use Rattle.ids.specs.Sizes.{Sizes, replicas}
use Rattle.definitions.specs.Bytes.{Bytes}
use Rattle.definitions.specs.Keyrings.{Keys}
use Rattle.definitions.specs.Frames.{Frame as Meant, sender_of}
use Rattle.definitions.specs.Digests.{digest}
use Rattle.definitions.specs.Checks.{identity_of}
use Rattle.definitions.specs.Rulings as rulings
use Rattle.definitions.specs.Admission.{passes, rejected, when, own_tag_verifies, is_copy}
use Rattle.definitions.specs.Admission.{check_copies, check_gathered}
use Rattle.frames_view.specs.Fields.{frame_replica, frame_core, frame_certificate}
use Rattle.frames_view.specs.Views.{frame_of, block_of}
use Rattle.frames_view.specs.declared.frame_views.BlockView.{BlockView}
use Rattle.frames_view.specs.declared.frame_views.Frame.{Frame}
use Rattle.frames_view.specs.declared.frame_views.Frame.TheVariants.{Request, Proposal, Vote, NewView, Reply}
use Rattle.frames_view.specs.declared.frame_views.Frame.TheVariants.{Fetch, Block}
use Rattle.certificates.specs.Outcomes.{CheckedView, IsGivenIf}
use Rattle.certificates.specs.Copying.{Gathered, is_another}
use Rattle.admission.specs.Inputs.{relayed_block}
use Rattle.admission.specs.declared.gathering.Gathering.{Gathering}
use Rattle.admission.specs.declared.gathering.Gathering.TheVariants.{Nothing, Together, Refused}
use Rattle.admission.specs.Gathering.{AreCopies, AreReadAs, IsSoFar, IsKeyed, HasGathered}
use Rattle.admission.specs.Gathering.{AnswersGathered, Gathers}
use Rattle.admission.specs.declared.input.Input.{Input}
use Rattle.admission.specs.declared.input.Input.TheVariants.{Relayed}
use Rattle.admission.specs.Inputs.{same_replica}
use Rattle.admission.proofs.Checks.{own}
use Rattle.definitions.specs.Events.{listed}
use Rattle.definitions.specs.FrameLimits.{IsReadAs}

when_not : (ok : Bool) (i : rulings.Input) → ok ≡ false → when ok i ≡ rejected fault.BadTag
when_not ok i fails = ap (λ b. when b i) fails

-- a block's own copy
abbrev copies_of : Keys → BlockView → Meant → Bool
copies_of keys v f = is_copy (identity_of keys) (frame_core (block_of v)) (frame_certificate (block_of v)) f

-- what begins with a block comes to this
begun : (keys : Keys) (v : BlockView) (rest : List Meant)
    → check_gathered (identity_of keys) (block_of v ∷ rest)
    ≡ when (nat_le (length (block_of v ∷ rest)) (replicas keys.sizes)
    && list_all (copies_of keys v) (block_of v ∷ rest))
    (relayed_block (record {
      first = record { keys = keys; view = v };
      senders = map (sender_of keys.sizes) (block_of v ∷ rest);
    }))
unfolding check_gathered check_copies
begun keys v rest = refl

-- copies pass
pub together : (keys : Keys) (fs : List Meant) (g : Gathered) → AreCopies keys fs g
    → check_gathered (identity_of keys) fs ≡ passes (relayed_block g)
together keys fs g a =
    let v = g.first.view in
    let few : nat_le (length fs) (replicas keys.sizes) ≡ true = le-leb _ _ a.few in
    let copies : list_all (copies_of keys v) fs ≡ true
    = subst (λ k. list_all (copies_of k v) fs ≡ true) a.keyed a.copies in
    let ok : (nat_le (length fs) (replicas keys.sizes) && list_all (copies_of keys v) fs) ≡ true
    = and_from _ _ few copies in
    let made : relayed_block (record {
      first = record { keys = keys; view = v };
      senders = map (sender_of keys.sizes) fs;
    }) ≡ relayed_block g
    = λ i. relayed_block (record {
      first = record { keys = sym a.keyed i; view = v };
      senders = sym a.senders i;
    }) in
    ap (check_gathered (identity_of keys)) a.first ∙ begun keys v a.rest
    ∙ ap (λ l. when (nat_le (length l) (replicas keys.sizes) && list_all (copies_of keys v) l)
    (relayed_block (record {
      first = record { keys = keys; view = v };
      senders = map (sender_of keys.sizes) l;
    }))) (sym a.first)
    ∙ ap (λ b. when b (relayed_block (record {
      first = record { keys = keys; view = v };
      senders = map (sender_of keys.sizes) fs;
    }))) ok
    ∙ ap passes made

same : (x : Bytes) → bytes_eq x x ≡ true
same x = (bytes_eq-Decides x x).1 refl

-- whether a block is a copy of itself hangs on its tag
own_copy : (keys : Keys) (v : BlockView)
    → copies_of keys v (block_of v) ≡ own_tag_verifies (identity_of keys) (block_of v)
unfolding is_copy
own_copy keys v =
    ap (λ b. own_tag_verifies (identity_of keys) (block_of v) && b)
    (and_from _ _ (same (digest (frame_core (block_of v)))) (same (frame_certificate (block_of v)).digest))
    ∙ and-true _

pub begins : (keys : Keys) (v : BlockView) → own_tag_verifies (identity_of keys) (block_of v) ≡ true
    → AreCopies keys (block_of v ∷ []) (record {
      first = record { keys = keys; view = v };
      senders = frame_replica (block_of v) ∷ [];
    })
begins keys v ok = record {
  rest = [];
  first = refl;
  keyed = refl;
  few = omega arith;
  copies = and_from _ _ (own_copy keys v ∙ ok) refl;
  senders = refl;
}

-- a first block with another tag
pub begins_badly : (keys : Keys) (v : BlockView) → own_tag_verifies (identity_of keys) (block_of v) ≡ false
    → (more : List Meant)
    → check_gathered (identity_of keys) (block_of v ∷ more) ≡ rejected fault.BadTag
begins_badly keys v bad more =
    let none : list_all (copies_of keys v) (block_of v ∷ more) ≡ false =
    ap (λ b. b && list_all (copies_of keys v) more) (own_copy keys v ∙ bad) in
    begun keys v more
    ∙ when_not _ _ (ap (λ b. nat_le (length (block_of v ∷ more)) (replicas keys.sizes) && b) none ∙ and-false _)

-- a first frame that brings no block
pub begins_otherwise : (keys : Keys) (f : Frame) → ((v : BlockView) → f ≡ Block v → ⊥) → (more : List Meant)
    → check_gathered (identity_of keys) (frame_of f ∷ more) ≡ rejected fault.NotMine
unfolding check_gathered check_copies
begins_otherwise keys (Request c) unlike more = refl
begins_otherwise keys (Proposal c) unlike more = refl
begins_otherwise keys (Vote c) unlike more = refl
begins_otherwise keys (NewView c) unlike more = refl
begins_otherwise keys (Reply c) unlike more = refl
begins_otherwise keys (Fetch c) unlike more = refl
begins_otherwise keys (Block v) unlike more = absurd (unlike v refl)

-- no copy
pub isnt_another : (g : Gathered) (f : Frame) → ((v : BlockView) → f ≡ Block v → ⊥)
    → is_another g (frame_of f) ≡ false
unfolding is_copy
isnt_another g (Request c) unlike = refl
isnt_another g (Proposal c) unlike = refl
isnt_another g (Vote c) unlike = refl
isnt_another g (NewView c) unlike = refl
isnt_another g (Reply c) unlike = refl
isnt_another g (Fetch c) unlike = refl
isnt_another g (Block v) unlike = absurd (unlike v refl)

-- what would be answered were it so isn't so
pub false_where : (b : Bool) → (b ≡ true → false ≡ true) → b ≡ false
false_where false h = refl
false_where true h = sym (h refl)

-- one of them isn't so
not_all : {X : Type 0} (p : X → Bool) (xs ys : List X) (x : X) → p x ≡ false
    → list_all p ((xs ++ x ∷ []) ++ ys) ≡ false
not_all p xs ys x e =
    list_all-append p (xs ++ x ∷ []) ys
    ∙ ap (λ b. b && list_all p ys)
    (list_all-append p xs (x ∷ []) ∙ ap (λ b. list_all p xs && (b && true)) e ∙ and-false _)

module _ (keys : Keys) (fs : List Meant) (g : Gathered) (a : AreCopies keys fs g) where
  -- whether one more fits
  abbrev fits_in : Meant → Bool
  fits_in f = nat_lt (length g.senders) (replicas g.first.keys.sizes) && is_another g f

  count : length g.senders ≡ length fs
  count = ap length a.senders ∙ length-map fs (sender_of keys.sizes)

  pub goes_on : (w : BlockView) → fits_in (block_of w) ≡ true
      → AreCopies keys (fs ++ block_of w ∷ [])
      (record g { senders = g.senders ++ frame_replica (block_of w) ∷ [] })
  goes_on w ok =
      let parts = and_parts _ _ ok in
      let room : length g.senders < replicas g.first.keys.sizes = ltb-true _ _ parts.0 in
      let there : length fs < replicas keys.sizes
      = subst (λ k. length fs < replicas k.sizes) a.keyed (subst (λ n. n < replicas g.first.keys.sizes) count room) in
      let longer : length (fs ++ block_of w ∷ []) ≡ length fs + 1 = length-append fs (block_of w ∷ []) in
      record {
        rest = a.rest ++ block_of w ∷ [];
        first = ap (λ l. l ++ block_of w ∷ []) a.first;
        keyed = a.keyed;
        few = omega (arith, longer, there);
        copies = list_all-append (is_another g) fs (block_of w ∷ [])
            ∙ and_from _ _ a.copies (and_from _ _ parts.1 refl);
        senders = ap (λ l. l ++ frame_replica (block_of w) ∷ []) a.senders
            ∙ sym (map-append (sender_of keys.sizes) fs (block_of w ∷ []));
      }

  -- too many, or no copy
  fails_with : (f : Meant) (more : List Meant) → fits_in f ≡ false
      → (nat_le (length ((fs ++ f ∷ []) ++ more)) (replicas keys.sizes)
      && list_all (copies_of keys g.first.view) ((fs ++ f ∷ []) ++ more)) ≡ false
  fails_with f more bad =
      go (nat_lt (length g.senders) (replicas g.first.keys.sizes)) (is_another g f) refl refl bad
    where
      all : List Meant
      all = (fs ++ f ∷ []) ++ more

      go : (room another : Bool) → nat_lt (length g.senders) (replicas g.first.keys.sizes) ≡ room
          → is_another g f ≡ another → (room && another) ≡ false
          → (nat_le (length all) (replicas keys.sizes) && list_all (copies_of keys g.first.view) all) ≡ false
      go false another r e bad =
          let full : replicas g.first.keys.sizes ≤ length g.senders = ltb-false _ _ r in
          let most : replicas keys.sizes ≤ length fs
          = subst (λ k. replicas k.sizes ≤ length fs) a.keyed
          (subst (λ n. replicas g.first.keys.sizes ≤ n) count full) in
          let one : length (fs ++ f ∷ []) ≡ length fs + 1 = length-append fs (f ∷ []) in
          let total : length all ≡ length (fs ++ f ∷ []) + length more = length-append (fs ++ f ∷ []) more in
          let over : replicas keys.sizes < length all = omega (arith, most, one, total) in
          ap (λ b. b && list_all (copies_of keys g.first.view) all) (lt-leb _ _ over)
      go true false r e bad =
          let mine : copies_of keys g.first.view f ≡ false
          = subst (λ k. copies_of k g.first.view f ≡ false) a.keyed e in
          ap (λ b. nat_le (length all) (replicas keys.sizes) && b)
          (not_all (copies_of keys g.first.view) fs more f mine) ∙ and-false _
      go true true r e bad = absurd (no bad)
        where
          no : true ≡ false → ⊥
          no k = cc

  pub ends : (f : Meant) → fits_in f ≡ false → (more : List Meant)
      → check_gathered (identity_of keys) ((fs ++ f ∷ []) ++ more) ≡ rejected fault.BadTag
  ends f bad more =
      let v = g.first.view in
      let rest : List Meant = (a.rest ++ f ∷ []) ++ more in
      let all : (fs ++ f ∷ []) ++ more ≡ block_of v ∷ rest = ap (λ l. (l ++ f ∷ []) ++ more) a.first in
      ap (check_gathered (identity_of keys)) all ∙ begun keys v rest
      ∙ when_not _ _ (subst (λ l. (nat_le (length l) (replicas keys.sizes) && list_all (copies_of keys v) l) ≡ false)
      all (fails_with f more bad))

-- ---- by what the calls gave

pub begun_well : (keys : Keys) (f : Frame) (v : BlockView) (x : CheckedView BlockView) (g : Gathered) → f ≡ Block v
    → IsGivenIf (own_tag_verifies (identity_of keys) (block_of v)) keys v (Ok x)
    → g ≡ record { first = x; senders = frame_replica (block_of x.view) ∷ [] } → AreCopies keys (frame_of f ∷ []) g
begun_well keys f v x g is given made =
    let made_of : CheckedView BlockView → Gathered
    = λ y. record { first = y; senders = frame_replica (block_of y.view) ∷ [] } in
    subst (λ h. AreCopies keys (frame_of h ∷ []) g) (sym is)
    (subst (AreCopies keys (block_of v ∷ [])) (sym (made ∙ ap made_of given.given))
    (begins keys v (given.exactly.0 refl)))

pub begun_badly : (keys : Keys) (f : Frame) (v : BlockView) (n : Fault) → f ≡ Block v
    → IsGivenIf (own_tag_verifies (identity_of keys) (block_of v)) keys v (Err n) → (more : List Meant)
    → check_gathered (identity_of keys) (frame_of f ∷ more) ≡ rejected n
begun_badly keys f v n is given more =
    ap (λ h. check_gathered (identity_of keys) (frame_of h ∷ more)) is
    ∙ begins_badly keys v (false_where _ given.exactly.1) more ∙ ap rejected (sym (same_fault n given.refused))
  where
    same_fault : (n : Fault) → ◌≡◌ {A = Result (CheckedView BlockView) Fault} (Err n) (Err fault.BadTag)
        → n ≡ fault.BadTag
    same_fault n k = cc

module _ (keys : Keys) (fs : List Meant) (g : Gathered) (a : AreCopies keys fs g) (f : Frame) where
  pub gone_on : (w : BlockView) (new : Gathered) → f ≡ Block w
      → (nat_lt (length g.senders) (replicas g.first.keys.sizes) && is_another g (block_of w)) ≡ true
      → new ≡ record g { senders = g.senders ++ frame_replica (block_of w) ∷ [] }
      → AreCopies keys (fs ++ frame_of f ∷ []) new
  gone_on w new is ok made =
      subst (λ h. AreCopies keys (fs ++ frame_of h ∷ []) new) (sym is)
      (subst (AreCopies keys (fs ++ block_of w ∷ [])) (sym made) (goes_on keys fs g a w ok))

  pub gone_wrong : (w : BlockView) (n : Fault) → f ≡ Block w
      → ((nat_lt (length g.senders) (replicas g.first.keys.sizes) && is_another g (block_of w)) ≡ true
      → false ≡ true)
      → ◌≡◌ {A = Result (Unit {0}) Fault} (Err n) (Err fault.BadTag) → (more : List Meant)
      → check_gathered (identity_of keys) ((fs ++ frame_of f ∷ []) ++ more) ≡ rejected n
  gone_wrong w n is bad refused more =
      ap (λ h. check_gathered (identity_of keys) ((fs ++ frame_of h ∷ []) ++ more)) is
      ∙ ends keys fs g a (block_of w) (false_where _ bad) more ∙ ap rejected (sym same_fault)
    where
      same_fault : n ≡ fault.BadTag
      same_fault = cc

  -- what brings no block
  pub gone_astray : ((w : BlockView) → f ≡ Block w → ⊥) → (more : List Meant)
      → check_gathered (identity_of keys) ((fs ++ frame_of f ∷ []) ++ more) ≡ rejected fault.BadTag
  gone_astray unlike more =
      ends keys fs g a (frame_of f)
      (ap (λ b. nat_lt (length g.senders) (replicas g.first.keys.sizes) && b) (isnt_another g f unlike)
      ∙ and-false _) more

-- ---- the bytes that were read

pub one_read : (sizes : Sizes) (bs : List (Bor Bytes)) (rs : List (Option Meant)) (b : Bor Bytes) (r : Option Meant)
    → AreReadAs sizes bs rs → IsReadAs sizes b.now r → AreReadAs sizes (bs ++ b ∷ []) (rs ++ r ∷ [])
one_read sizes [] [] b r h k = (k, tt)
one_read sizes [] (q ∷ rs) b r h k = absurd h
one_read sizes (a ∷ bs) [] b r h k = absurd h
one_read sizes (a ∷ bs) (q ∷ rs) b r h k = (h.0, one_read sizes bs rs b r h.1 k)

-- what was gathered has the keys
pub keyed : (keys : Keys) (frames : List (Bor Bytes)) (g : Gathering) → HasGathered keys frames g → IsKeyed keys g
keyed keys frames Nothing h = tt
keyed keys frames (Together g) h = h.so_far.keyed
keyed keys frames (Refused n) h = tt

-- one more is read, and gathered where it is a frame
pub one_more : (keys : Keys) (sizes : Sizes) (frames : List (Bor Bytes)) (i : ℕ) (d : Bor Bytes) (r : Option Meant)
    (old new : Gathering) → sizes ≡ keys.sizes → i < length frames → HasGathered keys (take i frames) old
    → IsReadAs sizes (get_or frames i d).now r
    → ((fs : List Meant) → IsSoFar keys fs old → IsSoFar keys (fs ++ listed r) new)
    → HasGathered keys (take (i + 1) frames) new
one_more keys sizes frames i d r old new same there h is more =
    let longer : take (i + 1) frames ≡ take i frames ++ get_or frames i d ∷ [] =
    ap (λ n. take n frames) (add-one i) ∙ take-suc frames i d there in
    let more_is : flat_map listed (h.reads ++ r ∷ []) ≡ flat_map listed h.reads ++ listed r =
    flat_map-append listed h.reads (r ∷ [])
    ∙ ap (λ l. flat_map listed h.reads ++ l) (append-nil (listed r)) in
    record {
      reads = h.reads ++ r ∷ [];
      read = subst (λ l. AreReadAs keys.sizes l (h.reads ++ r ∷ [])) (sym longer)
          (one_read keys.sizes (take i frames) h.reads (get_or frames i d) r h.read
          (subst (λ s. IsReadAs s (get_or frames i d).now r) same is));
      so_far = subst (λ l. IsSoFar keys l new) (sym more_is) (more (flat_map listed h.reads) h.so_far);
    }

-- bytes that are no frame add nothing
pub no_more : (keys : Keys) (g : Gathering) (fs : List Meant) → IsSoFar keys fs g → IsSoFar keys (fs ++ []) g
no_more keys g fs h = subst (λ l. IsSoFar keys l g) (sym (append-nil fs)) h

-- the answer
abbrev pub answer_of : Gathering → Result Input Fault
answer_of Nothing = Err fault.NotAFrame
answer_of (Together g) = Ok (Relayed g)
answer_of (Refused n) = Err n

answers : (keys : Keys) (fs : List Meant) (g : Gathering) → IsSoFar keys fs g
    → AnswersGathered keys (check_gathered (identity_of keys) fs) (answer_of g)
unfolding check_gathered
answers keys fs Nothing h =
    subst (λ l. AnswersGathered keys (check_gathered (identity_of keys) l) (Err fault.NotAFrame)) (sym h) refl
answers keys fs (Together g) h =
    subst (λ x. AnswersGathered keys x (Ok (Relayed g))) (sym (together keys fs g h))
    (refl, subst (λ k. IsTrue (same_replica g.first.keys k)) h.keyed (own g.first.keys))
answers keys fs (Refused n) h =
    subst (λ x. AnswersGathered keys x (Err n))
    (sym (ap (check_gathered (identity_of keys)) (sym (append-nil fs)) ∙ h [])) refl

-- at the end
pub gathered : (keys : Keys) (frames : List (Bor Bytes)) (i : ℕ) (g : Gathering) → length frames ≤ i
    → HasGathered keys (take i frames) g → Gathers keys frames (answer_of g)
gathered keys frames i g all h = (
  h.reads,
  subst (λ l. AreReadAs keys.sizes l h.reads) (take_all i frames all) h.read,
  answers keys (flat_map listed h.reads) g h.so_far,
)
