-- Lines one after the other: what is read in parts is read, and what isn't there in a part isn't.
use Rattle.std.proofs.Common.{◌≡◌, ℕ, zero, suc, ◌+◌, ◌-◌, ◌<◌, add-zero, zero-add, List, [], ◌∷◌, ◌++◌}
use Rattle.std.proofs.Common.{length, drop, Some, None, arith, sym, refl, ◌∙◌, ap, append_assoc}
use Rattle.std.specs.List.{flat_map, range_with_len}
use Rattle.std.specs.Prelude.{filter, Bool, true, false}
use Rattle.std.proofs.lemmas.List.Elements.{filter-append}
use Rattle.std.proofs.lemmas.Grind.{flat_map-append}
use Rattle.ids.specs.Sizes.{Sizes, replicas, client_party}
use Rattle.std.specs.Prelude.{IfOk, Result, Ok, Err}
use Rattle.std.specs.Borrow.{Bor}
use Rattle.key_file.specs.declared.key_file.KeyFileFault.{KeyFileFault}
use Rattle.std.proofs.lemmas.List.{append-nil, length-append}
use Rattle.std.proofs.Math.Seq.{drop-append_seam}
use Rattle.hex.specs.Hex.{encode_lower}
use Rattle.definitions.specs.Bytes.{Bytes}
use Rattle.key_file.specs.declared.pair_key.PairKey.{PairKey}
use Rattle.key_file.specs.KeyFile.{AreOf, IsKey, line_of, key_line, key_end, number_text}
use Rattle.key_file.specs.KeyFile.{pairs_with, pairs_of, pairs}
use Rattle.key_file.specs.Reading.{Reads, HasNo, IsKeyAt}
use Rattle.key_file.proofs.Lines.{length-key}

-- of two texts that are equal, equally long fronts are
cancel : (a b x y : Bytes) → length a ≡ length b → a ++ x ≡ b ++ y → x ≡ y
cancel a b x y len e = sym (drop-append_seam a x) ∙ ap (drop (length a)) e ∙ rw len (drop-append_seam b y)

-- the line of two parties is as long with every key
same_length : (one other : ℕ) (k l : Bytes) → IsKey k → IsKey l
    → length (key_line one other k) ≡ length (key_line one other l)
same_length one other k l first second =
    let lines = λ (key : Bytes). length-append (number_text one) (number_text other ++ key_end key) in
    let ends = λ (key : Bytes). length-append (number_text other) (key_end key) in
    let digits = λ (key : Bytes). length-append (encode_lower key) (10 ∷ []) in
    omega
    (arith, length-key k first, length-key l second, lines k, lines l, ends k, ends l, digits k, digits l)

pub read_both : (ps qs : List (ℕ × ℕ)) (text mid rest : Bytes) (ks ls : List PairKey) → Reads ps text ks mid
    → Reads qs mid ls rest
    → Reads (ps ++ qs) text (ks ++ ls) rest
read_both [] qs text mid rest [] ls first second = record { are = second.are; is = first.is ∙ second.is }
read_both [] qs text mid rest (k ∷ ks) ls first second = absurd first.are
read_both (p ∷ ps) qs text mid rest [] ls first second = absurd first.are
read_both (p ∷ ps) qs text mid rest (k ∷ ks) ls first second =
    let behind : Reads ps (flat_map line_of ks ++ mid) ks mid = record { are = first.are.3; is = refl } in
    let more = read_both ps qs (flat_map line_of ks ++ mid) mid rest ks ls behind second in
    record {
      are = (first.are.0, first.are.1, first.are.2, more.are);
      is =
          first.is ∙ append_assoc (line_of k) (flat_map line_of ks) mid ∙ ap (λ t. line_of k ++ t) more.is
          ∙ sym (append_assoc (line_of k) (flat_map line_of (ks ++ ls)) rest);
    }

-- what stands behind the front, in the keys of all
behind_front : (ps qs : List (ℕ × ℕ)) (mid more : Bytes) (ks ms : List PairKey) → AreOf ps ks
    → AreOf (ps ++ qs) ms
    → flat_map line_of ks ++ mid ≡ flat_map line_of ms ++ more → (ls : List PairKey) × Reads qs mid ls more
behind_front [] qs mid more [] ms first all e = (ms, record { are = all; is = e })
behind_front [] qs mid more (k ∷ ks) ms first all e = absurd first
behind_front (p ∷ ps) qs mid more [] ms first all e = absurd first
behind_front (p ∷ ps) qs mid more (k ∷ ks) [] first all e = absurd all
behind_front (p ∷ ps) qs mid more (k ∷ ks) (m ∷ ms) first all e =
    let one : m.one ≡ k.one = all.0 ∙ sym first.0 in
    let other : m.other ≡ k.other = all.1 ∙ sym first.1 in
    let len : length (line_of k) ≡ length (line_of m) =
    rw (one, other) (same_length k.one k.other k.key m.key first.2 all.2) in
    let whole =
    sym (append_assoc (line_of k) (flat_map line_of ks) mid) ∙ e
    ∙ append_assoc (line_of m) (flat_map line_of ms) more in
    behind_front ps qs mid more ks ms first.3 all.3
    (cancel (line_of k) (line_of m) (flat_map line_of ks ++ mid) (flat_map line_of ms ++ more) len whole)

pub none_behind : (ps qs : List (ℕ × ℕ)) (text mid : Bytes) (ks : List PairKey) → Reads ps text ks mid
    → HasNo qs mid → HasNo (ps ++ qs) text
none_behind ps qs text mid ks first none = λ keys rest all.
    let found = behind_front ps qs mid rest ks keys first.are all.are (sym first.is ∙ all.is) in
    none found.0 rest found.1

-- the front of keys
front_of : (ps qs : List (ℕ × ℕ)) (text rest : Bytes) (ms : List PairKey) → AreOf (ps ++ qs) ms
    → text ≡ flat_map line_of ms ++ rest
    → (ks : List PairKey) × (mid : Bytes) × Reads ps text ks mid
front_of [] qs text rest ms all e = ([], text, record { are = tt; is = refl })
front_of (p ∷ ps) qs text rest [] all e = absurd all
front_of (p ∷ ps) qs text rest (m ∷ ms) all e =
    let more = front_of ps qs (flat_map line_of ms ++ rest) rest ms all.3 refl in (
      m ∷ more.0,
      more.1,
      record {
        are = (all.0, all.1, all.2, more.2.are);
        is =
            e ∙ append_assoc (line_of m) (flat_map line_of ms) rest ∙ ap (λ t. line_of m ++ t) more.2.is
            ∙ sym (append_assoc (line_of m) (flat_map line_of more.0) more.1);
      },
    )

pub none_before : (ps qs : List (ℕ × ℕ)) (text : Bytes) → HasNo ps text → HasNo (ps ++ qs) text
none_before ps qs text none =
    λ keys rest all. let front = front_of ps qs text rest keys all.are all.is in none front.0 front.1 front.2

-- ---- one line

one_read : (text rest : Bytes) (k : PairKey) → IsKey k.key → text ≡ line_of k ++ rest
    → Reads ((k.one, k.other) ∷ []) text (k ∷ []) rest
one_read text rest k fits e =
    record { are = (refl, refl, fits, tt); is = e ∙ ap (λ t. t ++ rest) (sym (append-nil (line_of k))) }

none_read : (text : Bytes) (one other : ℕ) → IsKeyAt (key_line one other) text None
    → HasNo ((one, other) ∷ []) text
none_read text one other none [] rest all = absurd all.are
none_read text one other none (k ∷ l ∷ ks) rest all = absurd all.are.3
none_read text one other none (k ∷ []) rest all =
    none k.key rest all.are.2
    (all.is ∙ ap (λ t. t ++ rest) (append-nil (line_of k)) ∙ rw (all.are.0, all.are.1) refl)

-- the line of a pair that is kept, or of one that isn't
pub nothing_read : (p : ℕ × ℕ → Bool) (one other : ℕ) (text : Bytes) → p (one, other) ≡ false
    → Reads (filter p ((one, other) ∷ [])) text [] text
nothing_read p one other text out = rw out (record { are = tt; is = refl })

pub pair_read : (p : ℕ × ℕ → Bool) (one other : ℕ) (text rest key : Bytes) → p (one, other) ≡ true
    → IsKeyAt (key_line one other) text (Some (key, rest))
    → Reads (filter p ((one, other) ∷ [])) text (record { one = one; other = other; key = key } ∷ []) rest
pair_read p one other text rest key kept line =
    rw kept (one_read text rest (record { one = one; other = other; key = key }) line.0 line.1)

pub no_pair : (p : ℕ × ℕ → Bool) (one other : ℕ) (text : Bytes) → p (one, other) ≡ true
    → IsKeyAt (key_line one other) text None → HasNo (filter p ((one, other) ∷ [])) text
no_pair p one other text kept none = rw kept (none_read text one other none)

-- ---- the lines of a party

-- the pairs with parties from one on are those with the first so many, and then the others
pub pairs_split : (one first i more : ℕ)
    → pairs_with one first (i + more) ≡ pairs_with one first i ++ pairs_with one (first + i) more
pairs_split one first zero more = rw (zero-add, add-zero) refl
pairs_split one first (suc i) more =
    let ih = pairs_split one (first + 1) i more in
    let e : suc i + more ≡ suc (i + more) = omega arith in
    let f : first + 1 + i ≡ first + suc i = omega arith in
    rw e (ap (λ ps. (one, first) ∷ ps) (rw f at ih))

-- a row of which some pairs have lines, cut in two
kept_split : (p : ℕ × ℕ → Bool) (one first i more : ℕ)
    → filter p (pairs_with one first (i + more))
    ≡ filter p (pairs_with one first i) ++ filter p (pairs_with one (first + i) more)
kept_split p one first i more =
    ap (filter p) (pairs_split one first i more)
    ∙ filter-append p (pairs_with one first i) (pairs_with one (first + i) more)

pub one_more : (p : ℕ × ℕ → Bool) (one first i : ℕ) (text rest more : Bytes) (read row : List PairKey)
    → Reads (filter p (pairs_with one first i)) text read rest
    → Reads (filter p ((one, first + i) ∷ [])) rest row more
    → Reads (filter p (pairs_with one first (i + 1))) text (read ++ row) more
one_more p one first i text rest more read row so_far next =
    rw (kept_split p one first i 1)
    (read_both (filter p (pairs_with one first i)) (filter p ((one, first + i) ∷ [])) text rest more read row
    so_far next)

pub none_at : (p : ℕ × ℕ → Bool) (one first i count : ℕ) (text rest : Bytes) (read : List PairKey) → i < count
    → Reads (filter p (pairs_with one first i)) text read rest
    → HasNo (filter p ((one, first + i) ∷ [])) rest → HasNo (filter p (pairs_with one first count)) text
none_at p one first i count text rest read below so_far none =
    let left = count - suc i in
    let e : count ≡ i + suc left = omega arith in
    let later = pairs_with one (first + i + 1) left in
    let front = filter p (pairs_with one first i) in
    let here = filter p ((one, first + i) ∷ []) in
    let whole : filter p (pairs_with one first count) ≡ front ++ (here ++ filter p later)
    = ap (λ n. filter p (pairs_with one first n)) e ∙ kept_split p one first i (suc left)
    ∙ ap (λ ps. front ++ ps) (filter-append p ((one, first + i) ∷ []) later) in
    rw whole (none_behind front (here ++ filter p later) text rest read so_far
    (none_before here (filter p later) rest none))

-- ---- the lines of all replicas

range_split : (first i more : ℕ)
    → range_with_len first (i + more) ≡ range_with_len first i ++ range_with_len (first + i) more
range_split first zero more = rw (zero-add, add-zero) refl
range_split first (suc i) more =
    let ih = range_split (first + 1) i more in
    let e : suc i + more ≡ suc (i + more) = omega arith in
    let f : first + 1 + i ≡ first + suc i = omega arith in
    rw e (ap (λ ps. first ∷ ps) (rw f at ih))

-- the pairs of the first so many replicas
abbrev pub pairs_before : Sizes → ℕ → List (ℕ × ℕ)
pairs_before sizes i = flat_map (pairs_of sizes) (range_with_len 0 i)

pub rows_split : (sizes : Sizes) (i more : ℕ)
    → pairs_before sizes (i + more)
    ≡ pairs_before sizes i ++ flat_map (pairs_of sizes) (range_with_len i more)
rows_split sizes i more =
    let e = range_split 0 i more in
    ap (flat_map (pairs_of sizes)) (rw zero-add at e)
    ∙ flat_map-append (pairs_of sizes) (range_with_len 0 i) (range_with_len i more)

-- the lines of the first so many replicas
abbrev pub lines_before : (ℕ × ℕ → Bool) → Sizes → ℕ → List (ℕ × ℕ)
lines_before p sizes i = filter p (pairs_before sizes i)

lines_split : (p : ℕ × ℕ → Bool) (sizes : Sizes) (i more : ℕ)
    → lines_before p sizes (i + more)
    ≡ lines_before p sizes i ++ filter p (flat_map (pairs_of sizes) (range_with_len i more))
lines_split p sizes i more =
    ap (filter p) (rows_split sizes i more)
    ∙ filter-append p (pairs_before sizes i) (flat_map (pairs_of sizes) (range_with_len i more))

pub one_more_row : (p : ℕ × ℕ → Bool) (sizes : Sizes) (i : ℕ) (text rest more : Bytes) (read row : List PairKey)
    → Reads (lines_before p sizes i) text read rest
    → Reads (filter p (pairs_of sizes i)) rest row more
    → Reads (lines_before p sizes (i + 1)) text (read ++ row) more
one_more_row p sizes i text rest more read row so_far next =
    rw (lines_split p sizes i 1, append-nil (pairs_of sizes i))
    (read_both (lines_before p sizes i) (filter p (pairs_of sizes i)) text rest more read row so_far next)

-- the text is a file of these keys
abbrev IsOf : (ℕ × ℕ → Bool) → Sizes → List PairKey → Bytes → Type 0
IsOf p sizes keys text = AreOf (filter p (pairs sizes)) keys × (text ≡ flat_map line_of keys)

-- no file: a row is missing
pub no_row : (p : ℕ × ℕ → Bool) (sizes : Sizes) (i : ℕ) (text rest : Bytes) (read : List PairKey)
    → i < replicas sizes → Reads (lines_before p sizes i) text read rest
    → HasNo (filter p (pairs_of sizes i)) rest → (keys : List PairKey) → IsOf p sizes keys text → ⊥
no_row p sizes i text rest read below so_far none keys file =
    let left = replicas sizes - suc i in
    let later = flat_map (pairs_of sizes) (range_with_len (i + 1) left) in
    let e : replicas sizes ≡ i + suc left = omega arith in
    let split = lines_split p sizes i (suc left) in
    let behind = filter-append p (pairs_of sizes i) later in
    let whole : filter p (pairs sizes)
    ≡ lines_before p sizes i ++ (filter p (pairs_of sizes i) ++ filter p later)
    = ap (lines_before p sizes) e ∙ split ∙ ap (λ ps. lines_before p sizes i ++ ps) behind in
    none_behind (lines_before p sizes i) (filter p (pairs_of sizes i) ++ filter p later) text rest read so_far
    (none_before (filter p (pairs_of sizes i)) (filter p later) rest none)
    keys [] (record { are = rw (← whole) file.0; is = file.1 ∙ sym (append-nil (flat_map line_of keys)) })

-- no file: something stands behind all lines
pub too_long : (p : ℕ × ℕ → Bool) (sizes : Sizes) (text rest : Bytes) (read : List PairKey)
    → Reads (filter p (pairs sizes)) text read rest → (rest ≡ [] → ⊥)
    → (keys : List PairKey) → IsOf p sizes keys text → ⊥
too_long p sizes text rest read so_far some keys file =
    let lines = filter p (pairs sizes) in
    let all : AreOf (lines ++ []) keys = rw (append-nil lines) file.0 in
    let left = behind_front lines [] rest [] read keys so_far.are all
    (sym so_far.is ∙ file.1 ∙ sym (append-nil (flat_map line_of keys))) in
    some (nothing left.0 rest left.1)
  where
    nothing : (ls : List PairKey) (t : Bytes) → Reads [] t ls [] → t ≡ []
    nothing [] t r = r.is
    nothing (l ∷ ls) t r = absurd r.are

-- all of the text is read
pub whole_file : (p : ℕ × ℕ → Bool) (sizes : Sizes) (text rest : Bytes) (read : List PairKey)
    → Reads (filter p (pairs sizes)) text read rest → rest ≡ [] → IsOf p sizes read text
whole_file p sizes text rest read so_far end =
    (so_far.are, so_far.is ∙ ap (λ t. flat_map line_of read ++ t) end ∙ append-nil (flat_map line_of read))

-- ---- a row, of two parts

pub row_read : (p : ℕ × ℕ → Bool) (sizes : Sizes) (one own first m k : ℕ) (text mid : Bytes)
    (old some all : List PairKey) (r : Result (Bor Bytes) KeyFileFault)
    → own ≡ one → first ≡ client_party 0 → m ≡ replicas sizes - one → k ≡ sizes.clients
    → (x : List PairKey) × (some ≡ old ++ x) × Reads (filter p (pairs_with own own m)) text x mid
    → IfOk r (λ rest. (x : List PairKey) × (all ≡ some ++ x) × Reads (filter p (pairs_with own first k)) mid x rest.now)
    → IfOk r (λ rest. (x : List PairKey) × (all ≡ old ++ x)
    × Reads (filter p (pairs_of sizes one)) text x rest.now)
row_read p sizes one own first m k text mid old some all (Err fault) eo ef em ek front behind = tt
row_read p sizes one own first m k text mid old some all (Ok rest) eo ef em ek front behind =
    let both = read_both (filter p (pairs_with own own m)) (filter p (pairs_with own first k)) text mid rest.now
    front.0 behind.0 front.2 behind.2 in
    let parts = filter-append p (pairs_with one one (replicas sizes - one))
    (pairs_with one (client_party 0) sizes.clients) in (
      front.0 ++ behind.0,
      behind.1 ∙ ap (λ ks. ks ++ behind.0) front.1 ∙ append_assoc old front.0 behind.0,
      rw parts (rw (eo, ef, em, ek) at both),
    )

-- a row without lines in its first part, or in its second
pub no_front : (p : ℕ × ℕ → Bool) (sizes : Sizes) (one : ℕ) (text : Bytes)
    → HasNo (filter p (pairs_with one one (replicas sizes - one))) text
    → HasNo (filter p (pairs_of sizes one)) text
no_front p sizes one text none =
    let own = pairs_with one one (replicas sizes - one) in
    let clients = pairs_with one (client_party 0) sizes.clients in
    rw (filter-append p own clients) (none_before (filter p own) (filter p clients) text none)

pub no_back : (p : ℕ × ℕ → Bool) (sizes : Sizes) (one : ℕ) (text mid : Bytes) (keys : List PairKey)
    → Reads (filter p (pairs_with one one (replicas sizes - one))) text keys mid
    → HasNo (filter p (pairs_with one (client_party 0) sizes.clients)) mid
    → HasNo (filter p (pairs_of sizes one)) text
no_back p sizes one text mid keys front none =
    let own = pairs_with one one (replicas sizes - one) in
    let clients = pairs_with one (client_party 0) sizes.clients in
    rw (filter-append p own clients) (none_behind (filter p own) (filter p clients) text mid keys front none)
