-- The bytes of a frame, and of each of its parts, determine it, in each version.
use Rattle.std.proofs.Common.{ℕ, ◌^◌, ◌<◌, ◌≡◌, zero, suc, List, [], ◌∷◌, ◌++◌, length, take, drop, get_or}
use Rattle.std.proofs.Common.{refl, sym, ap, ◌∙◌, arith, append_assoc, Option, Some, None, inl, inr}
use Rattle.std.specs.Int.{Width, w16, w32, w64, to_be_bytes, from_be_bytes, byte_len, bytes_high_first}
use Rattle.std.specs.List.{flat_map, AllByRecursion}
use Rattle.std.proofs.lemmas.List.{take_at, drop_at}
use Rattle.std.proofs.lemmas.Nat.{from_be_bytes-to_be_bytes_2, from_be_bytes-to_be_bytes_4}
use Rattle.std.proofs.lemmas.Nat.{from_be_bytes-to_be_bytes_8}
use Rattle.ids.specs.Sizes.{Sizes, AreSizes}
use Rattle.ids.specs.declared.kind.Kind.{Kind}
use Rattle.ids.specs.declared.kind.Kind.TheVariants as kind
use Rattle.ids.specs.Numbers.{kind_number}
use Rattle.definitions.specs.Bytes.{Bytes}
use Rattle.definitions.specs.Digests.{digest}
use Rattle.sha2.specs.Sha256.{sha256}
use Rattle.definitions.specs.Frames.{Command, Core, Certificate, Frame, request, proposal, vote, new_view, reply}
use Rattle.definitions.specs.Frames.{fetch, block, command_content, command_bytes, core_bytes, vote_bytes}
use Rattle.definitions.specs.Frames.{block_content, certificate_bytes, reply_content, kind_of, old_spelling, spelling}
use Rattle.definitions.specs.FrameLimits.{IsCommand, IsCore, IsVote, IsCertificate, IsFrame, Spells}
use Rattle.definitions.specs.FrameLimits.{IsReadAs}
use Rattle.ids.specs.declared.limits.TheConstants.{VERSION_TWO}

-- ---- lists and numbers

-- equal lists whose fronts are of one length have one front and one rest
pub append_parts : {A : Type 0} (a b s t : List A) → length a ≡ length b → a ++ s ≡ b ++ t → (a ≡ b) × (s ≡ t)
append_parts a b s t same e = (
  sym (take_at a s (length a) refl) ∙ (ap (take (length a)) e ∙ take_at b t (length a) (sym same)),
  sym (drop_at a s (length a) refl) ∙ (ap (drop (length a)) e ∙ drop_at b t (length a) (sym same)),
)

-- the lowest k bytes of a number are k bytes
length-bytes_high_first : (k n : ℕ) → length (bytes_high_first k n) ≡ k
length-bytes_high_first zero n = refl
length-bytes_high_first (suc k) n = ap suc (length-bytes_high_first k n)

-- the number is read back from its bytes of this width: it fits
abbrev pub IsReadBack : Width → ℕ → Type 0
IsReadBack w n = from_be_bytes w (to_be_bytes w n) ≡ n

-- numbers that are read back and have the same bytes are one number
pub to_be_bytes_injective : (w : Width) (m n : ℕ) → IsReadBack w m → IsReadBack w n
    → to_be_bytes w m ≡ to_be_bytes w n → m ≡ n
to_be_bytes_injective w m n hm hn e = sym hm ∙ (ap (from_be_bytes w) e ∙ hn)

-- its bytes with others behind them determine it, and the others
pub to_be_bytes_parts : (w : Width) (m n : ℕ) (s t : Bytes) → IsReadBack w m → IsReadBack w n
    → to_be_bytes w m ++ s ≡ to_be_bytes w n ++ t → (m ≡ n) × (s ≡ t)
to_be_bytes_parts w m n s t hm hn e =
    let len : length (to_be_bytes w m) ≡ length (to_be_bytes w n) =
    length-bytes_high_first (byte_len w) m ∙ sym (length-bytes_high_first (byte_len w) n) in
    let p = append_parts (to_be_bytes w m) (to_be_bytes w n) s t len e in
    (to_be_bytes_injective w m n hm hn p.0, p.1)

-- the bytes of these values show where they end: with any others behind them they determine the value, and
-- the others
abbrev pub IsSelfEnding : {X : Type 0} → (X → Type 0) → (X → Bytes) → Type 0
IsSelfEnding {X} P bytes =
    (x y : X) (s t : Bytes) → P x → P y → bytes x ++ s ≡ bytes y ++ t → (x ≡ y) × (s ≡ t)

-- such bytes alone determine the value
pub IsSelfEnding-injective : {X : Type 0} (P : X → Type 0) (bytes : X → Bytes) → IsSelfEnding P bytes
    → (x y : X) → P x → P y → bytes x ≡ bytes y → x ≡ y
IsSelfEnding-injective P bytes ends x y hx hy e = (ends x y [] [] hx hy (ap (λ (l : Bytes). l ++ []) e)).0

-- spelled one after the other, as many such values are determined, and what stands behind them
pub flat_map_parts : {X : Type 0} (P : X → Type 0) (bytes : X → Bytes) → IsSelfEnding P bytes
    → (xs ys : List X) (s t : Bytes)
    → AllByRecursion P xs → AllByRecursion P ys → length xs ≡ length ys
    → flat_map bytes xs ++ s ≡ flat_map bytes ys ++ t → (xs ≡ ys) × (s ≡ t)
flat_map_parts P bytes ends [] [] s t hx hy same e = (refl, e)
flat_map_parts P bytes ends [] (y ∷ ys) s t hx hy same e = absurd cc
flat_map_parts P bytes ends (x ∷ xs) [] s t hx hy same e = absurd cc
flat_map_parts P bytes ends (x ∷ xs) (y ∷ ys) s t hx hy same e =
    let here = ends x y (flat_map bytes xs ++ s) (flat_map bytes ys ++ t) hx.0 hy.0
    (sym (append_assoc (bytes x) (flat_map bytes xs) s)
    ∙ (e ∙ append_assoc (bytes y) (flat_map bytes ys) t)) in
    let rest = flat_map_parts P bytes ends xs ys s t hx.1 hy.1 (cc) here.1 in
    (cc, rest.1)

-- a list behind its number of elements shows where it ends
pub IsSelfEnding-counted : {X : Type 0} (P : X → Type 0) (bytes : X → Bytes) → IsSelfEnding P bytes
    → IsSelfEnding (AllByRecursion P) (λ xs. length xs ∷ flat_map bytes xs)
IsSelfEnding-counted P bytes ends xs ys s t hx hy e =
    flat_map_parts P bytes ends xs ys s t hx hy (ap (λ (l : Bytes). get_or l 0 0) e) (ap (drop 1) e)

-- ---- contents of tags

-- what a client's tags speak of determines the number, where it fits 8 bytes, and the payload
pub command_content_injective : (c d s t : ℕ) (p q : Bytes) → s < 2 ^ 64 → t < 2 ^ 64
    → command_content c s p ≡ command_content d t q → (s ≡ t) × (p ≡ q)
command_content_injective c d s t p q hs ht e = (
  to_be_bytes_injective w64 s t (from_be_bytes-to_be_bytes_8 s hs) (from_be_bytes-to_be_bytes_8 t ht)
      (ap (λ (l : Bytes). take 8 (drop 2 l)) e),
  ap (drop 12) e,
)

-- what a reply's tag speaks of determines the number and the place, where they fit 8 bytes, and the text
pub reply_content_injective : (r c s p : ℕ) (x : Bytes) (a b d e : ℕ) (y : Bytes) → s < 2 ^ 64 → p < 2 ^ 64
    → d < 2 ^ 64 → e < 2 ^ 64
    → reply_content r c s p x ≡ reply_content a b d e y → (s ≡ d) × (p ≡ e) × (x ≡ y)
reply_content_injective r c s p x a b d e y hs hp hd he h = (
  to_be_bytes_injective w64 s d (from_be_bytes-to_be_bytes_8 s hs) (from_be_bytes-to_be_bytes_8 d hd)
      (ap (λ (l : Bytes). take 8 (drop 4 l)) h),
  to_be_bytes_injective w64 p e (from_be_bytes-to_be_bytes_8 p hp) (from_be_bytes-to_be_bytes_8 e he)
      (ap (λ (l : Bytes). take 8 (drop 12 l)) h),
  ap (drop 24) h,
)

-- ---- the parts of a frame

-- the 2 bytes of a party's number or of a length, with others behind them, determine it, and the others
short_parts : (m n : ℕ) (s t : Bytes) → m < 2 ^ 16 → n < 2 ^ 16
    → to_be_bytes w16 m ++ s ≡ to_be_bytes w16 n ++ t → (m ≡ n) × (s ≡ t)
short_parts m n s t hm hn =
    to_be_bytes_parts w16 m n s t (from_be_bytes-to_be_bytes_2 m hm) (from_be_bytes-to_be_bytes_2 n hn)

-- the 8 bytes of a request's number, a height, a view or a place determine it likewise
long_parts : (m n : ℕ) (s t : Bytes) → m < 2 ^ 64 → n < 2 ^ 64
    → to_be_bytes w64 m ++ s ≡ to_be_bytes w64 n ++ t → (m ≡ n) × (s ≡ t)
long_parts m n s t hm hn =
    to_be_bytes_parts w64 m n s t (from_be_bytes-to_be_bytes_8 m hm) (from_be_bytes-to_be_bytes_8 n hn)

-- the bytes of a core behind its parent
abbrev core_end : Core → Bytes
core_end k =
    to_be_bytes w64 k.height ++ to_be_bytes w64 k.justify_height ++ length k.commands
    ∷ flat_map command_bytes k.commands

-- the bytes of a core are its parent and then these
core_bytes-append : (k : Core) (s : Bytes) → core_bytes k ++ s ≡ k.parent ++ (core_end k ++ s)
core_bytes-append k s = simp append_assoc

-- the bytes of a number of this width, with others behind them, determine themselves, and the others
bytes_parts : (w : Width) (m n : ℕ) (s t : Bytes) → to_be_bytes w m ++ s ≡ to_be_bytes w n ++ t
    → (to_be_bytes w m ≡ to_be_bytes w n) × (s ≡ t)
bytes_parts w m n s t e =
    append_parts (to_be_bytes w m) (to_be_bytes w n) s t
    (length-bytes_high_first (byte_len w) m ∙ sym (length-bytes_high_first (byte_len w) n)) e

-- so do the bytes of a command, at any sizes
command_parts : (sizes : Sizes) (c d : Command) (s t : Bytes) → IsCommand sizes c → IsCommand sizes d
    → command_bytes c ++ s ≡ command_bytes d ++ t → (command_bytes c ≡ command_bytes d) × (s ≡ t)
command_parts sizes c d s t hc hd e =
    let client = bytes_parts w16 c.client d.client _ _ e in
    let seq = bytes_parts w64 c.seq d.seq _ _ client.1 in
    let size = to_be_bytes_parts w16 (length c.payload) (length d.payload) ((c.payload ++ c.vector) ++ s)
    ((d.payload ++ d.vector) ++ t) (from_be_bytes-to_be_bytes_2 (length c.payload) (omega (arith, hc.payload)))
    (from_be_bytes-to_be_bytes_2 (length d.payload) (omega (arith, hd.payload))) seq.1 in
    let payload = append_parts c.payload d.payload (c.vector ++ s) (d.vector ++ t) size.0
    (sym (append_assoc c.payload c.vector s) ∙ (size.1 ∙ append_assoc d.payload d.vector t)) in
    let vector = append_parts c.vector d.vector s t (hc.vector ∙ sym hd.vector) payload.1 in (
      (λ i. (client.0 i ++ (seq.0 i ++ (to_be_bytes w16 (length (payload.0 i)) ++ payload.0 i))) ++ vector.0 i),
      vector.1,
    )

-- and those of as many commands
commands_parts : (sizes : Sizes) (xs ys : List Command) (s t : Bytes) → AllByRecursion (IsCommand sizes) xs
    → AllByRecursion (IsCommand sizes) ys → length xs ≡ length ys
    → flat_map command_bytes xs ++ s ≡ flat_map command_bytes ys ++ t
    → (flat_map command_bytes xs ≡ flat_map command_bytes ys) × (s ≡ t)
commands_parts sizes [] [] s t hx hy same e = (refl, e)
commands_parts sizes [] (y ∷ ys) s t hx hy same e = absurd cc
commands_parts sizes (x ∷ xs) [] s t hx hy same e = absurd cc
commands_parts sizes (x ∷ xs) (y ∷ ys) s t hx hy same e =
    let here = command_parts sizes x y (flat_map command_bytes xs ++ s) (flat_map command_bytes ys ++ t) hx.0
    hy.0
    (sym (append_assoc (command_bytes x) (flat_map command_bytes xs) s)
    ∙ (e ∙ append_assoc (command_bytes y) (flat_map command_bytes ys) t)) in
    let rest = commands_parts sizes xs ys s t hx.1 hy.1 (cc) here.1 in
    ((λ i. here.0 i ++ rest.0 i), rest.1)

-- what a block's tag speaks of determines the block's digest, at any sizes
pub block_content-digest : (sizes : Sizes) (a b : ℕ) (k l : Core) (q r : Certificate) → IsCore sizes k
    → IsCore sizes l → block_content a k q ≡ block_content b l r → digest k ≡ digest l
unfolding digest
block_content-digest sizes a b k l q r hk hl e =
    let number = bytes_parts w16 a b (core_bytes k ++ certificate_bytes q) (core_bytes l ++ certificate_bytes r)
    e in
    let parent = append_parts k.parent l.parent (core_end k ++ certificate_bytes q)
    (core_end l ++ certificate_bytes r) (hk.parent ∙ sym hl.parent)
    (sym (core_bytes-append k (certificate_bytes q)) ∙ (number.1 ∙ core_bytes-append l (certificate_bytes r))) in
    let height = bytes_parts w64 k.height l.height _ _ parent.1 in
    let justify = bytes_parts w64 k.justify_height l.justify_height _ _ height.1 in
    let count : length k.commands ≡ length l.commands = ap (λ (x : Bytes). get_or x 0 0) justify.1 in
    let commands = commands_parts sizes k.commands l.commands (certificate_bytes q) (certificate_bytes r)
    hk.commands hl.commands count (ap (drop 1) justify.1) in
    let bytes : core_bytes k ≡ core_bytes l =
    (λ i. parent.0 i ++ height.0 i ++ justify.0 i ++ count i ∷ commands.0 i) in ap sha256 bytes

-- the bytes of a certificate behind its digest
abbrev certificate_end : Certificate → Bytes
certificate_end q = length q.votes ∷ flat_map vote_bytes q.votes

module _ (sizes : Sizes) (are : AreSizes sizes) where
  -- a vote shows where it ends
  pub IsSelfEnding-vote_bytes : IsSelfEnding (IsVote sizes) vote_bytes
  IsSelfEnding-vote_bytes v w s t hv hw e =
      let number = short_parts v.voter w.voter (v.vector ++ s) (w.vector ++ t) (omega (arith, hv.voter))
      (omega (arith, hw.voter)) e in
      let vector = append_parts v.vector w.vector s t (hv.vector ∙ sym hw.vector) number.1 in
      ((λ i. record { voter = number.0 i; vector = vector.0 i }), vector.1)

  -- a command shows where it ends
  pub IsSelfEnding-command_bytes : IsSelfEnding (IsCommand sizes) command_bytes
  IsSelfEnding-command_bytes c d s t hc hd e =
      let client =
      short_parts c.client d.client _ _ (omega (arith, hc.client)) (omega (arith, hd.client)) e in
      let seq = long_parts c.seq d.seq _ _ hc.seq.1 hd.seq.1 client.1 in
      let size = short_parts (length c.payload) (length d.payload) ((c.payload ++ c.vector) ++ s)
      ((d.payload ++ d.vector) ++ t) (omega (arith, hc.payload)) (omega (arith, hd.payload)) seq.1 in
      let payload = append_parts c.payload d.payload (c.vector ++ s) (d.vector ++ t) size.0
      (sym (append_assoc c.payload c.vector s) ∙ (size.1 ∙ append_assoc d.payload d.vector t)) in
      let vector = append_parts c.vector d.vector s t (hc.vector ∙ sym hd.vector) payload.1 in (
        (λ i. record { client = client.0 i; seq = seq.0 i; payload = payload.0 i; vector = vector.0 i }),
        vector.1,
      )

  -- a core shows where it ends
  pub IsSelfEnding-core_bytes : IsSelfEnding (IsCore sizes) core_bytes
  IsSelfEnding-core_bytes k l s t hk hl e =
      let parent = append_parts k.parent l.parent (core_end k ++ s) (core_end l ++ t)
      (hk.parent ∙ sym hl.parent) (sym (core_bytes-append k s) ∙ (e ∙ core_bytes-append l t)) in
      let height = long_parts k.height l.height _ _ hk.height.1 hl.height.1 parent.1 in
      let below_k = hk.justify_height in
      let below_l = hl.justify_height in
      let top_k = hk.height.1 in
      let top_l = hl.height.1 in
      let justify = long_parts k.justify_height l.justify_height _ _ (omega (arith, below_k, top_k))
      (omega (arith, below_l, top_l)) height.1 in
      let commands = IsSelfEnding-counted (IsCommand sizes) command_bytes IsSelfEnding-command_bytes
      k.commands l.commands s t hk.commands hl.commands justify.1 in (
        (λ i. record {
          parent = parent.0 i;
          height = height.0 i;
          justify_height = justify.0 i;
          commands = commands.0 i;
        }),
        commands.1,
      )

  -- a certificate shows where it ends
  pub IsSelfEnding-certificate_bytes : IsSelfEnding (IsCertificate sizes) certificate_bytes
  IsSelfEnding-certificate_bytes q r s t hq hr e =
      let digest = append_parts q.digest r.digest (certificate_end q ++ s) (certificate_end r ++ t)
      (hq.digest ∙ sym hr.digest) (sym (append_assoc q.digest (certificate_end q) s)
      ∙ (e ∙ append_assoc r.digest (certificate_end r) t)) in
      let votes = IsSelfEnding-counted (IsVote sizes) vote_bytes IsSelfEnding-vote_bytes q.votes r.votes s t
      hq.votes hr.votes digest.1 in
      ((λ i. record { digest = digest.0 i; votes = votes.0 i }), votes.1)

-- ---- frames

-- the kinds, each at the place of its number; place 0 is of no kind
abbrev kinds : List Kind
kinds =
    kind.Request ∷ kind.Request ∷ kind.Proposal ∷ kind.Vote ∷ kind.NewView ∷ kind.Reply ∷ kind.Fetch
    ∷ kind.Block ∷ []

-- its number gives the kind back
kind_there : (k : Kind) → get_or kinds (kind_number k) kind.Request ≡ k
kind_there kind.Request = refl
kind_there kind.Proposal = refl
kind_there kind.Vote = refl
kind_there kind.NewView = refl
kind_there kind.Reply = refl
kind_there kind.Fetch = refl
kind_there kind.Block = refl

-- a number is of one kind
pub kind_number_injective : (k l : Kind) → kind_number k ≡ kind_number l → k ≡ l
kind_number_injective k l e =
    sym (kind_there k) ∙ (ap (λ (n : ℕ). get_or kinds n kind.Request) e ∙ kind_there l)

-- and it isn't the mark of version 2
pub kind_number-mark : (k : Kind) → kind_number k ≡ VERSION_TWO → ⊥
kind_number-mark kind.Request e = cc
kind_number-mark kind.Proposal e = cc
kind_number-mark kind.Vote e = cc
kind_number-mark kind.NewView e = cc
kind_number-mark kind.Reply e = cc
kind_number-mark kind.Fetch e = cc
kind_number-mark kind.Block e = cc

-- frames of one spelling are of one kind
pub spelling-kind : (f g : Frame) → old_spelling f ≡ old_spelling g → kind_of f ≡ kind_of g
spelling-kind f g e = kind_number_injective (kind_of f) (kind_of g) (ap (λ (l : Bytes). get_or l 0 0) e)

module _ (sizes : Sizes) (are : AreSizes sizes) where
  -- the bytes of a core and then a certificate, with others behind them, determine both, and the others
  pub core_and_certificate_parts : (k l : Core) (q r : Certificate) (s t : Bytes) → IsCore sizes k
      → IsCore sizes l → IsCertificate sizes q → IsCertificate sizes r
      → (core_bytes k ++ certificate_bytes q) ++ s ≡ (core_bytes l ++ certificate_bytes r) ++ t
      → (k ≡ l) × (q ≡ r) × (s ≡ t)
  core_and_certificate_parts k l q r s t hk hl hq hr e =
      let core =
      IsSelfEnding-core_bytes sizes are k l (certificate_bytes q ++ s) (certificate_bytes r ++ t) hk hl
      (sym (append_assoc (core_bytes k) (certificate_bytes q) s)
      ∙ (e ∙ append_assoc (core_bytes l) (certificate_bytes r) t)) in
      let cert = IsSelfEnding-certificate_bytes sizes are q r s t hq hr core.1 in
      (core.0, cert.0, cert.1)

  -- the spelling of a frame in version 1 is that of no other
  pub old_spelling_injective : (f g : Frame) → IsFrame sizes f → IsFrame sizes g
      → old_spelling f ≡ old_spelling g → f ≡ g
  old_spelling_injective (request c) (request d) hf hg e =
      ap request (IsSelfEnding-injective (IsCommand sizes) command_bytes
      (IsSelfEnding-command_bytes sizes are) c d hf hg (ap (drop 1) e))
  old_spelling_injective (proposal view k q vector) (proposal view' k' q' vector') hf hg e =
      let number = long_parts view view' _ _ hf.0 hg.0 (ap (drop 1) e) in
      let parts = core_and_certificate_parts k k' q q' vector vector' hf.1 hg.1 hf.2 hg.2 number.1 in
      λ i. proposal (number.0 i) (parts.0 i) (parts.1 i) (parts.2 i)
  old_spelling_injective (vote digest v) (vote digest' v') hf hg e =
      let first = append_parts digest digest' (vote_bytes v) (vote_bytes v') (hf.0 ∙ sym hg.0)
      (sym (append_assoc digest (to_be_bytes w16 v.voter) v.vector)
      ∙ (ap (drop 1) e ∙ append_assoc digest' (to_be_bytes w16 v'.voter) v'.vector)) in
      let second = IsSelfEnding-injective (IsVote sizes) vote_bytes (IsSelfEnding-vote_bytes sizes are) v v'
      hf.1 hg.1 first.1 in
      λ i. vote (first.0 i) (second i)
  old_spelling_injective (new_view view sender q vector) (new_view view' sender' q' vector') hf hg e =
      let number = long_parts view view' _ _ hf.0 hg.0 (ap (drop 1) e) in
      let from = short_parts sender sender' (certificate_bytes q ++ vector)
      (certificate_bytes q' ++ vector') (omega (arith, hf.1)) (omega (arith, hg.1)) number.1 in
      let cert = IsSelfEnding-certificate_bytes sizes are q q' vector vector' hf.2 hg.2 from.1 in
      λ i. new_view (number.0 i) (from.0 i) (cert.0 i) (cert.1 i)
  old_spelling_injective (reply replica client seq place text tag)
      (reply replica' client' seq' place' text' tag') hf hg e =
      let from =
      short_parts replica replica' _ _ (omega (arith, hf.0)) (omega (arith, hg.0)) (ap (drop 1) e) in
      let to = short_parts client client' _ _ (omega (arith, hf.1)) (omega (arith, hg.1)) from.1 in
      let number = long_parts seq seq' _ _ hf.2.1 hg.2.1 to.1 in
      let order = long_parts place place' _ _ hf.3.1 hg.3.1 number.1 in
      let size = to_be_bytes_parts w32 (length text) (length text') (text ++ tag) (text' ++ tag')
      (from_be_bytes-to_be_bytes_4 (length text) (omega (arith, hf.4)))
      (from_be_bytes-to_be_bytes_4 (length text') (omega (arith, hg.4))) order.1 in
      let last = append_parts text text' tag tag' size.0 size.1 in
      λ i. reply (from.0 i) (to.0 i) (number.0 i) (order.0 i) (last.0 i) (last.1 i)
  old_spelling_injective (fetch sender digest tag) (fetch sender' digest' tag') hf hg e =
      let from = short_parts sender sender' (digest ++ tag) (digest' ++ tag') (omega (arith, hf.0))
      (omega (arith, hg.0)) (ap (drop 1) e) in
      let last = append_parts digest digest' tag tag' (hf.1 ∙ sym hg.1) from.1 in
      λ i. fetch (from.0 i) (last.0 i) (last.1 i)
  old_spelling_injective (block sender k q tag) (block sender' k' q' tag') hf hg e =
      let from = short_parts sender sender' _ _ (omega (arith, hf.0)) (omega (arith, hg.0)) (ap (drop 1) e) in
      let parts = core_and_certificate_parts k k' q q' tag tag' hf.1 hg.1 hf.2 hg.2 from.1 in
      λ i. block (from.0 i) (parts.0 i) (parts.1 i) (parts.2 i)
  old_spelling_injective f g hf hg e = absurd (cc (spelling-kind f g e))

  -- so is that in version 2
  pub spelling_injective : (f g : Frame) → IsFrame sizes f → IsFrame sizes g → spelling f ≡ spelling g → f ≡ g
  spelling_injective f g hf hg e = old_spelling_injective f g hf hg (ap (drop 1) e)

  -- no bytes are spellings of both versions
  apart : (f g : Frame) (bytes : Bytes) → bytes ≡ old_spelling f → bytes ≡ spelling g → ⊥
  apart f g bytes h k =
      kind_number-mark (kind_of f) (ap (λ (l : Bytes). get_or l 0 0) (sym h ∙ k))

  -- what bytes spell is one frame
  pub Spells-unique : (bytes : Bytes) (f g : Frame) → Spells sizes bytes f → Spells sizes bytes g → f ≡ g
  Spells-unique bytes f g (hf, inl a) (hg, inl b) = old_spelling_injective f g hf hg (sym a.1 ∙ b.1)
  Spells-unique bytes f g (hf, inr a) (hg, inr b) = spelling_injective f g hf hg (sym a.1 ∙ b.1)
  Spells-unique bytes f g (hf, inl a) (hg, inr b) = absurd (apart f g bytes a.1 b.1)
  Spells-unique bytes f g (hf, inr a) (hg, inl b) = absurd (apart g f bytes b.1 a.1)

  -- what bytes are read as is one thing
  pub IsReadAs-unique : (bytes : Bytes) (a b : Option Frame) → IsReadAs sizes bytes a
      → IsReadAs sizes bytes b → a ≡ b
  IsReadAs-unique bytes (Some f) (Some g) ha hb = ap Some (Spells-unique bytes f g ha hb)
  IsReadAs-unique bytes (Some f) None ha hb = absurd (hb f ha)
  IsReadAs-unique bytes None (Some g) ha hb = absurd (ha g hb)
  IsReadAs-unique bytes None None ha hb = refl
