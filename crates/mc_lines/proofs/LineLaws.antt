-- What a line says is what its text spells, and the other way round.
use Rattle.std.proofs.Common.{◌≡◌, ℕ, zero, suc, ◌+◌, ◌^◌, ◌<◌, ◌≤◌, Bool, true, false, cond, ◌&&◌, List}
use Rattle.std.proofs.Common.{[], ◌∷◌, ◌++◌, length, Option, Some, None, refl, sym, ap, subst, ◌∙◌, arith}
use Rattle.std.specs.Prelude.{nat_lt, codes, decimal, bytes_eq, option_map, slice_index_or, Contains}
use Rattle.std.specs.List.{AllByRecursion, join_with_byte}
use Rattle.std.specs.Str.Parse.{digits_value}
use Rattle.std.proofs.lemmas.Bool.{and_parts, and_from, ltb-true, lt-ltb}
use Rattle.std.proofs.lemmas.Option.{same_Some, cond_some}
use Rattle.std.proofs.lemmas.List.{append-nil}
use Rattle.std.proofs.lemmas.Slice.Eq.{bytes_eq-Decides}
use Rattle.definitions.specs.Bytes.{Bytes}
use Rattle.definitions.specs.Cache.{number_in}
use Rattle.definitions.specs.Requests.{Verb, set, add, replace, append, prepend, Head, store, cas, get}
use Rattle.definitions.specs.Requests.{gets, delete, incr, decr, space, verb_name, fields, noreply_field}
use Rattle.definitions.specs.Requests.{IsKey, AreKeys, HasForm, MayHave}
use Rattle.definitions.specs.Items.{names, name_of, IsLineOf}
use Rattle.definitions.proofs.Lines.{parts-line, key_passes, is_key-passes}
use Rattle.definitions.proofs.ItemLaws.{name_first}
use Rattle.mc_lines.specs.declared.request.Verb.TheVariants as verbs
use Rattle.mc_lines.specs.declared.line.Head as heads
use Rattle.mc_lines.specs.declared.line.Head.TheVariants as lines
use Rattle.mc_lines.specs.declared.line.Name.{Name}
use Rattle.mc_lines.specs.declared.line.Name.TheVariants as named
use Rattle.mc_lines.specs.Fields.{parts, keys_pass, ◌>>=◌, key_first, number_first, flags_first}
use Rattle.mc_lines.specs.Fields.{expiry_first, noreply_in}
use Rattle.mc_lines.specs.Meaning.{verb_of}
use Rattle.mc_lines.specs.Heads.{head_of, head_place, name_in, store_in, cas_in, delete_in, counted_in}
use Rattle.mc_lines.specs.Heads.{keys_in, head_for}
use Rattle.mc_lines.proofs.Parts.{bytes_same, parts_joined}
use Rattle.mc_lines.proofs.Decimals.{number-decimal}

-- ---- steps that gave something

-- by a test, which way it went
by_test : {A P : Type 0} (b : Bool) (x y z : A) → cond b x y ≡ z → (b ≡ true → x ≡ z → P)
    → (b ≡ false → y ≡ z → P) → P
by_test true x y z e p q = p refl e
by_test false x y z e p q = q refl e

-- what a passed test gave
passed : {A : Type 0} (b : Bool) (o : Option A) (y : A) → cond b o None ≡ Some y → (b ≡ true) × (o ≡ Some y)
passed true o y e = (refl, e)
passed false o y e = absurd cc

-- the first of two steps gave something, and then the second
bind_some : {A B : Type 0} (o : Option A) (f : A → Option B) (y : B) → (o >>= f) ≡ Some y
    → (x : A) × (o ≡ Some x) × (f x ≡ Some y)
bind_some (Some x) f y e = (x, refl, e)
bind_some None f y e = absurd cc

-- what a step gave before it was mapped
map_some : {A B : Type 0} (f : A → B) (o : Option A) (y : B) → option_map f o ≡ Some y
    → (x : A) × (o ≡ Some x) × (f x ≡ y)
map_some f (Some x) y e = (x, refl, same_Some _ _ e)
map_some f None y e = absurd cc

-- ---- numbers

-- what is read as a number is its decimal
number_in-some : (t : Bytes) (n : ℕ) → number_in t ≡ Some n → (t ≡ decimal n) × (n < 2 ^ 64)
number_in-some t n e =
    let m = digits_value 10 t in
    let a = cond_some (nat_lt m (2 ^ 64) && bytes_eq t (decimal m)) m n e in
    let both = and_parts _ _ a.0 in
    let below : m < 2 ^ 64 = ltb-true _ _ both.0 in
    ((bytes_eq-Decides t (decimal m)).0 both.1 ∙ ap decimal a.1, omega (arith, a.1, below))

-- a decimal is read as its number
number_in-decimal : (n : ℕ) → n < 2 ^ 64 → number_in (decimal n) ≡ Some n
number_in-decimal n lt = sym (number-decimal (decimal n) n lt refl)

-- ---- the steps, from what they gave

-- a key was there
after_key : {B : Type 0} (fs : List Bytes) (f : Bytes × List Bytes → Option B) (y : B)
    → (key_first fs >>= f) ≡ Some y
    → (key : Bytes) × (more : List Bytes) × IsKey key × (fs ≡ key ∷ more) × (f (key, more) ≡ Some y)
after_key [] f y e = absurd cc
after_key (key ∷ more) f y e =
    let a = bind_some (key_first (key ∷ more)) f y e in
    let p = cond_some _ _ _ a.1 in
    (key, more, key_passes key p.0, refl, ap f p.1 ∙ a.2)

-- a number was there
after_number : {B : Type 0} (fs : List Bytes) (f : ℕ × List Bytes → Option B) (y : B)
    → (number_first fs >>= f) ≡ Some y
    → (n : ℕ) × (more : List Bytes) × (n < 2 ^ 64) × (fs ≡ decimal n ∷ more) × (f (n, more) ≡ Some y)
after_number [] f y e = absurd cc
after_number (field ∷ more) f y e =
    let a = bind_some (number_first (field ∷ more)) f y e in
    let b = bind_some (number_in field) (λ n. Some (n, more)) a.0 a.1 in
    let found = number_in-some field b.0 b.1 in
    (b.0, more, found.1, ap (λ (t : Bytes). t ∷ more) found.0, ap f (same_Some _ _ b.2) ∙ a.2)

-- flags were there
after_flags : {B : Type 0} (fs : List Bytes) (f : ℕ × List Bytes → Option B) (y : B)
    → (flags_first fs >>= f) ≡ Some y
    → (n : ℕ) × (more : List Bytes) × (n < 2 ^ 32) × (fs ≡ decimal n ∷ more) × (f (n, more) ≡ Some y)
after_flags fs f y e =
    let a = bind_some (flags_first fs) f y e in
    let b = after_number fs (λ n. cond (nat_lt n.0 (2 ^ 32)) (Some n) None) a.0 a.1 in
    let p = cond_some _ _ _ b.4 in
    (b.0, b.1, ltb-true _ _ p.0, b.3, ap f p.1 ∙ a.2)

-- a 0 was there
after_expiry : {B : Type 0} (fs : List Bytes) (f : List Bytes → Option B) (y : B)
    → (expiry_first fs >>= f) ≡ Some y
    → (more : List Bytes) × (fs ≡ codes "0" ∷ more) × (f more ≡ Some y)
after_expiry [] f y e = absurd cc
after_expiry (field ∷ more) f y e =
    let a = bind_some (expiry_first (field ∷ more)) f y e in
    let p = cond_some _ _ _ a.1 in
    (more, ap (λ (t : Bytes). t ∷ more) (bytes_same _ _ p.0), ap f p.1 ∙ a.2)

-- noreply or nothing was there
noreply_in-some : (ws : List Bytes) (q : Bool) → noreply_in ws ≡ Some q → ws ≡ noreply_field q
noreply_in-some [] q e = ap noreply_field (same_Some _ _ e)
noreply_in-some (w ∷ []) q e =
    let p = cond_some _ _ _ e in
    rw (← p.1) (ap (λ (v : Bytes). v ∷ []) (bytes_same _ _ p.0))
noreply_in-some (w ∷ v ∷ ws) q e = absurd cc

-- the same, and then the last step
after_noreply : {B : Type 0} (fs : List Bytes) (f : Bool → Option B) (y : B) → (noreply_in fs >>= f) ≡ Some y
    → (q : Bool) × (fs ≡ noreply_field q) × (f q ≡ Some y)
after_noreply fs f y e = let a = bind_some (noreply_in fs) f y e in (a.0, noreply_in-some fs a.0 a.1, a.2)

-- noreply is read where it stands
noreply_in-field : (q : Bool) → noreply_in (noreply_field q) ≡ Some q
noreply_in-field true = refl
noreply_in-field false = refl

-- ---- keys

-- what passes are keys
keys_pass-some : (most : ℕ) (ks : List Bytes) → keys_pass most ks ≡ true
    → (1 ≤ length ks) × (length ks ≤ most) × AllByRecursion IsKey ks
keys_pass-some zero ks e = absurd cc
keys_pass-some (suc most) [] e = absurd cc
keys_pass-some (suc most) (k ∷ []) e = (omega arith, omega arith, (key_passes k e, tt))
keys_pass-some (suc most) (k ∷ l ∷ ks) e =
    let p = and_parts _ _ e in
    let rest = keys_pass-some most (l ∷ ks) p.1 in
    (omega arith, omega (arith, rest.1), (key_passes k p.0, rest.2))

-- keys pass
keys_pass-keys : (most : ℕ) (ks : List Bytes) → 1 ≤ length ks → length ks ≤ most → AllByRecursion IsKey ks
    → keys_pass most ks ≡ true
keys_pass-keys zero ks one few h = absurd (omega arith)
keys_pass-keys (suc most) [] one few h = absurd (omega arith)
keys_pass-keys (suc most) (k ∷ []) one few h = is_key-passes k h.0
keys_pass-keys (suc most) (k ∷ l ∷ ks) one few h =
    and_from _ _ (is_key-passes k h.0) (keys_pass-keys most (l ∷ ks) (omega arith) (omega arith) h.1)

-- ---- names

-- the name of a command
abbrev pub name_text : Name → Bytes
name_text (named.Store verb) = verb_name (verb_of verb)
name_text named.Cas = codes "cas"
name_text named.Get = codes "get"
name_text named.Gets = codes "gets"
name_text named.Delete = codes "delete"
name_text named.Incr = codes "incr"
name_text named.Decr = codes "decr"
name_text named.Quit = codes "quit"

-- one test of a name
name_case : (word text : Bytes) (m n : Name) (o : Option Name) → (o ≡ Some n → word ≡ name_text n)
    → name_text m ≡ text → cond (bytes_eq word text) (Some m) o ≡ Some n → word ≡ name_text n
name_case word text m n o later is e =
    by_test _ _ _ _ e (λ p f. bytes_same _ _ p ∙ sym is ∙ ap name_text (same_Some _ _ f)) (λ _ f. later f)

-- what is read as a name is its text
pub name_in-some : (word : Bytes) (n : Name) → name_in word ≡ Some n → word ≡ name_text n
name_in-some word n e =
    name_case word _ named.Get n _ (λ e1.
    name_case word _ named.Gets n _ (λ e2.
    name_case word _ (named.Store verbs.Set) n _ (λ e3.
    name_case word _ (named.Store verbs.Add) n _ (λ e4.
    name_case word _ (named.Store verbs.Replace) n _ (λ e5.
    name_case word _ (named.Store verbs.Append) n _ (λ e6.
    name_case word _ (named.Store verbs.Prepend) n _ (λ e7.
    name_case word _ named.Cas n _ (λ e8.
    name_case word _ named.Incr n _ (λ e9.
    name_case word _ named.Decr n _ (λ e10.
    name_case word _ named.Delete n _ (λ e11.
    name_case word _ named.Quit n _ (λ e12. absurd cc) refl e11) refl e10) refl e9) refl e8) refl e7) refl
    e6) refl e5) refl e4) refl e3) refl e2) refl e1) refl e

-- a name is among the twelve
among_names : (n : Name) → Contains names (name_text n)
among_names named.Get = (0, omega arith, refl)
among_names named.Gets = (1, omega arith, refl)
among_names (named.Store verbs.Set) = (2, omega arith, refl)
among_names (named.Store verbs.Add) = (3, omega arith, refl)
among_names (named.Store verbs.Replace) = (4, omega arith, refl)
among_names (named.Store verbs.Append) = (5, omega arith, refl)
among_names (named.Store verbs.Prepend) = (6, omega arith, refl)
among_names named.Cas = (7, omega arith, refl)
among_names named.Incr = (8, omega arith, refl)
among_names named.Decr = (9, omega arith, refl)
among_names named.Delete = (10, omega arith, refl)
among_names named.Quit = (11, omega arith, refl)

-- so is a word that is read as one
named_is : (word : Bytes) (n : Name) → name_in word ≡ Some n → Contains names word
named_is word n e = subst (Contains names) (sym (name_in-some word n e)) (among_names n)

-- the word is read as a name
abbrev pub IsNamed : Bytes → Type 0
IsNamed word = (n : Name) × (name_in word ≡ Some n)

-- a word among such words is one
named_at : (ns : List Bytes) (word : Bytes) (k : ℕ) → AllByRecursion IsNamed ns → k < length ns
    → slice_index_or ns k word ≡ word → IsNamed word
named_at [] word k all lt e = absurd (omega arith)
named_at (name ∷ ns) word zero all lt e = subst IsNamed e all.0
named_at (name ∷ ns) word (suc k) all lt e = named_at ns word k all.1 (omega arith) e

-- each of the twelve is read as a name
all_named : AllByRecursion IsNamed names
all_named = (
  (named.Get, refl),
  (
    (named.Gets, refl),
    (
      (named.Store verbs.Set, refl),
      (
        (named.Store verbs.Add, refl),
        (
          (named.Store verbs.Replace, refl),
          (
            (named.Store verbs.Append, refl),
            (
              (named.Store verbs.Prepend, refl),
              (
                (named.Cas, refl),
                (
                  (named.Incr, refl),
                  ((named.Decr, refl), ((named.Delete, refl), ((named.Quit, refl), tt))),
                ),
              ),
            ),
          ),
        ),
      ),
    ),
  ),
)

-- the first field is the name
first_is : (l word : Bytes) (args : List Bytes) → parts l ≡ word ∷ args → word ≡ name_of l
first_is l word args e = ap (λ (t : List Bytes). slice_index_or t 0 []) (sym e) ∙ name_first l

-- a line whose first field is no name has an unknown name
pub unknown_name : (l word : Bytes) (args : List Bytes) → parts l ≡ word ∷ args → None ≡ name_in word
    → ¬ (Contains names (name_of l))
unknown_name l word args e none among =
    let c : Contains names word = subst (Contains names) (sym (first_is l word args e)) among in
    let known = named_at names word c.0 all_named c.1 c.2 in
    let is = known.1 in
    cc

-- a line whose first field is a name has a known name
pub known_name : (l word : Bytes) (args : List Bytes) (n : Name) → parts l ≡ word ∷ args
    → Some n ≡ name_in word → Contains names (name_of l)
known_name l word args n e is = subst (Contains names) (first_is l word args e) (named_is word n (sym is))

-- ---- what the fields behind a name say, they spell

-- the fields spell what is said
abbrev pub Says : List Bytes → Head × Bool → Type 0
Says fs x = HasForm x.0 × MayHave x.0 x.1 × (fs ≡ fields x.0 ++ noreply_field x.1)

-- what is said of the same fields
said : (fs : List Bytes) (x y : Head × Bool) → ◌≡◌ {A = Option (Head × Bool)} (Some x) (Some y) → Says fs x
    → Says fs y
said fs x y e h = subst (Says fs) (same_Some x y e) h

-- the fields of a storage command, one after the other
store_joined : (name key f z b : Bytes) (fs fs1 fs2 fs3 fs4 fs5 : List Bytes) → fs ≡ key ∷ fs1
    → fs1 ≡ f ∷ fs2 → fs2 ≡ z ∷ fs3 → fs3 ≡ b ∷ fs4 → fs4 ≡ fs5
    → name ∷ fs ≡ name ∷ key ∷ f ∷ z ∷ b ∷ fs5
store_joined name key f z b fs fs1 fs2 fs3 fs4 fs5 e1 e2 e3 e4 e5 = cc

-- the same of a cas
cas_joined : (name key f z b u : Bytes) (fs fs1 fs2 fs3 fs4 fs5 fs6 : List Bytes) → fs ≡ key ∷ fs1
    → fs1 ≡ f ∷ fs2 → fs2 ≡ z ∷ fs3 → fs3 ≡ b ∷ fs4
    → fs4 ≡ u ∷ fs5 → fs5 ≡ fs6 → name ∷ fs ≡ name ∷ key ∷ f ∷ z ∷ b ∷ u ∷ fs6
cas_joined name key f z b u fs fs1 fs2 fs3 fs4 fs5 fs6 e1 e2 e3 e4 e5 e6 = cc

-- the same of a delete
delete_joined : (name key : Bytes) (fs fs1 fs2 : List Bytes) → fs ≡ key ∷ fs1 → fs1 ≡ fs2
    → name ∷ fs ≡ name ∷ key ∷ fs2
delete_joined name key fs fs1 fs2 e1 e2 = cc

-- the same of a key and a number
counted_joined : (key n : Bytes) (fs fs1 fs2 fs3 : List Bytes) → fs ≡ key ∷ fs1 → fs1 ≡ n ∷ fs2 → fs2 ≡ fs3
    → fs ≡ key ∷ n ∷ fs3
counted_joined key n fs fs1 fs2 fs3 e1 e2 e3 = cc

-- a storage command
store_says : (verb : Verb) (fs : List Bytes) (y : Head × Bool) → store_in verb fs ≡ Some y
    → Says (verb_name verb ∷ fs) y
store_says verb fs y e =
    let k = after_key fs (λ key. flags_first key.1 >>= λ flags. expiry_first flags.1
    >>= λ rest. number_first rest >>= λ bytes. noreply_in bytes.1
    >>= λ noreply. Some (store verb key.0 flags.0 bytes.0, noreply)) y e in
    let f = after_flags k.1 (λ flags. expiry_first flags.1 >>= λ rest. number_first rest
    >>= λ bytes. noreply_in bytes.1 >>= λ noreply. Some (store verb k.0 flags.0 bytes.0, noreply)) y
    k.4 in
    let z = after_expiry f.1 (λ rest. number_first rest >>= λ bytes. noreply_in bytes.1
    >>= λ noreply. Some (store verb k.0 f.0 bytes.0, noreply)) y f.4 in
    let b = after_number z.0
    (λ bytes. noreply_in bytes.1 >>= λ noreply. Some (store verb k.0 f.0 bytes.0, noreply)) y z.2 in
    let q = after_noreply b.1 (λ noreply. Some (store verb k.0 f.0 b.0, noreply)) y b.4 in
    said (verb_name verb ∷ fs) (store verb k.0 f.0 b.0, q.0) y q.2 (
      (k.2, f.2, b.2),
      λ _. refl {a = true},
      store_joined (verb_name verb) k.0 (decimal f.0) (codes "0") (decimal b.0) fs k.1 f.1 z.0 b.1
          (noreply_field q.0) k.3 f.3 z.1 b.3 q.1,
    )

-- cas
cas_says : (fs : List Bytes) (y : Head × Bool) → cas_in fs ≡ Some y → Says (codes "cas" ∷ fs) y
cas_says fs y e =
    let k = after_key fs (λ key. flags_first key.1 >>= λ flags. expiry_first flags.1
    >>= λ rest. number_first rest >>= λ bytes. number_first bytes.1 >>= λ cas_unique. noreply_in cas_unique.1
    >>= λ noreply. Some (cas key.0 flags.0 bytes.0 cas_unique.0, noreply)) y e in
    let f = after_flags k.1 (λ flags. expiry_first flags.1 >>= λ rest. number_first rest
    >>= λ bytes. number_first bytes.1 >>= λ cas_unique. noreply_in cas_unique.1
    >>= λ noreply. Some (cas k.0 flags.0 bytes.0 cas_unique.0, noreply)) y k.4 in
    let z = after_expiry f.1 (λ rest. number_first rest >>= λ bytes. number_first bytes.1
    >>= λ cas_unique. noreply_in cas_unique.1
    >>= λ noreply. Some (cas k.0 f.0 bytes.0 cas_unique.0, noreply)) y
    f.4 in
    let b = after_number z.0 (λ bytes. number_first bytes.1 >>= λ cas_unique. noreply_in cas_unique.1
    >>= λ noreply. Some (cas k.0 f.0 bytes.0 cas_unique.0, noreply)) y z.2 in
    let u = after_number b.1
    (λ cas_unique. noreply_in cas_unique.1 >>= λ noreply. Some (cas k.0 f.0 b.0 cas_unique.0, noreply)) y
    b.4 in
    let q = after_noreply u.1 (λ noreply. Some (cas k.0 f.0 b.0 u.0, noreply)) y u.4 in
    said (codes "cas" ∷ fs) (cas k.0 f.0 b.0 u.0, q.0) y q.2 (
      (k.2, f.2, b.2, u.2),
      λ _. refl {a = true},
      cas_joined (codes "cas") k.0 (decimal f.0) (codes "0") (decimal b.0) (decimal u.0) fs k.1 f.1 z.0 b.1
          u.1 (noreply_field q.0) k.3 f.3 z.1 b.3 u.3 q.1,
    )

-- delete
delete_says : (fs : List Bytes) (y : Head × Bool) → delete_in fs ≡ Some y → Says (codes "delete" ∷ fs) y
delete_says fs y e =
    let k = after_key fs (λ key. noreply_in key.1 >>= λ noreply. Some (delete key.0, noreply)) y e in
    let q = after_noreply k.1 (λ noreply. Some (delete k.0, noreply)) y k.4 in
    said (codes "delete" ∷ fs) (delete k.0, q.0) y q.2
    (k.2, λ _. refl {a = true}, delete_joined (codes "delete") k.0 fs k.1 (noreply_field q.0) k.3 q.1)

-- the fields spell a key and a number
abbrev Counts : List Bytes → Bytes × ℕ × Bool → Type 0
Counts fs x = IsKey x.0 × (x.1 < 2 ^ 64) × (fs ≡ x.0 ∷ decimal x.1 ∷ noreply_field x.2)

-- what is read of the same fields
counted : (fs : List Bytes) (x y : Bytes × ℕ × Bool) → ◌≡◌ {A = Option (Bytes × ℕ × Bool)} (Some x) (Some y)
    → Counts fs x → Counts fs y
counted fs x y e h = subst (Counts fs) (same_Some x y e) h

-- a key and a number
counted_says : (fs : List Bytes) (x : Bytes × ℕ × Bool) → counted_in fs ≡ Some x → Counts fs x
counted_says fs x e =
    let k = after_key fs (λ key. number_first key.1 >>= λ value. noreply_in value.1
    >>= λ noreply. Some (key.0, value.0, noreply)) x e in
    let n =
    after_number k.1 (λ value. noreply_in value.1 >>= λ noreply. Some (k.0, value.0, noreply)) x k.4 in
    let q = after_noreply n.1 (λ noreply. Some (k.0, n.0, noreply)) x n.4 in
    counted fs (k.0, n.0, q.0) x q.2
    (k.2, n.2, counted_joined k.0 (decimal n.0) fs k.1 n.1 (noreply_field q.0) k.3 n.3 q.1)

-- the keys of a retrieval
keys_says : (fs keys : List Bytes) → keys_in fs ≡ Some keys → AreKeys keys × (fs ≡ keys)
keys_says fs keys e =
    let p = cond_some _ _ _ e in
    (subst AreKeys p.1 (keys_pass-some 16 fs p.0), p.1)

-- what the fields behind a name say
head_says : (n : Name) (fs : List Bytes) (y : Head × Bool) → head_for n fs ≡ Some y
    → Says (name_text n ∷ fs) y
head_says (named.Store verb) fs y e = store_says (verb_of verb) fs y e
head_says named.Cas fs y e = cas_says fs y e
head_says named.Get fs y e =
    let m = map_some _ _ _ e in
    let k = keys_says fs m.0 m.1 in
    subst (Says (codes "get" ∷ fs)) m.2
    (k.0, λ h. absurd cc, ap (λ (t : List Bytes). codes "get" ∷ t) (k.1 ∙ sym (append-nil m.0)))
head_says named.Gets fs y e =
    let m = map_some _ _ _ e in
    let k = keys_says fs m.0 m.1 in
    subst (Says (codes "gets" ∷ fs)) m.2
    (k.0, λ h. absurd cc, ap (λ (t : List Bytes). codes "gets" ∷ t) (k.1 ∙ sym (append-nil m.0)))
head_says named.Delete fs y e = delete_says fs y e
head_says named.Incr fs y e =
    let m = map_some _ _ _ e in
    let k = counted_says fs m.0 m.1 in
    subst (Says (codes "incr" ∷ fs)) m.2
    ((k.0, k.1), λ _. refl {a = true}, ap (λ (t : List Bytes). codes "incr" ∷ t) k.2)
head_says named.Decr fs y e =
    let m = map_some _ _ _ e in
    let k = counted_says fs m.0 m.1 in
    subst (Says (codes "decr" ∷ fs)) m.2
    ((k.0, k.1), λ _. refl {a = true}, ap (λ (t : List Bytes). codes "decr" ∷ t) k.2)
head_says named.Quit fs y e = absurd cc

-- a name and what is behind it say what the line says
pub line_is : (l word : Bytes) (args : List Bytes) (n : Name) (head : Head) (noreply : Bool)
    → parts l ≡ word ∷ args → Some n ≡ name_in word
    → Some (head, noreply) ≡ head_for n args → IsLineOf l head noreply
line_is l word args n head noreply e is made =
    let s = head_says n args (head, noreply) (sym made) in
    let name : word ≡ name_text n = name_in-some word n (sym is) in
    (s.0, s.1, sym (parts_joined l) ∙ ap (join_with_byte space) (e ∙ ap (λ (t : Bytes). t ∷ args) name ∙ s.2))

-- its name is the first of the fields
pub name_is : (word : Bytes) (args : List Bytes) (n : Name) (head : Head) (noreply : Bool)
    → Some n ≡ name_in word
    → Some (head, noreply) ≡ head_for n args
    → word ≡ slice_index_or (fields head ++ noreply_field noreply) 0 []
name_is word args n head noreply is made =
    let s = head_says n args (head, noreply) (sym made) in
    name_in-some word n (sym is) ∙ ap (λ (t : List Bytes). slice_index_or t 0 []) s.2

-- ---- what a line spells is said

-- the fields are read so
abbrev pub Reads : List Bytes → Head → Bool → Type 0
Reads [] head noreply = ⊥
Reads (word ∷ args) head noreply =
    (n : Name) × (name_in word ≡ Some n) × (head_for n args ≡ Some (head, noreply))

-- a storage command
store_reads : (verb : Verb) (key : Bytes) (flags bytes : ℕ) (q : Bool) → IsKey key → flags < 2 ^ 32
    → bytes < 2 ^ 64
    → store_in verb (key ∷ decimal flags ∷ codes "0" ∷ decimal bytes ∷ noreply_field q)
    ≡ Some (store verb key flags bytes, q)
store_reads verb key flags bytes q is small below =
    rw (
      is_key-passes key is,
      number_in-decimal flags (omega arith),
      lt-ltb flags (2 ^ 32) small,
      number_in-decimal bytes below,
      noreply_in-field q,
    ) refl

-- cas
cas_reads : (key : Bytes) (flags bytes cas_unique : ℕ) (q : Bool) → IsKey key → flags < 2 ^ 32
    → bytes < 2 ^ 64
    → cas_unique < 2 ^ 64
    → cas_in (key ∷ decimal flags ∷ codes "0" ∷ decimal bytes ∷ decimal cas_unique ∷ noreply_field q)
    ≡ Some (cas key flags bytes cas_unique, q)
cas_reads key flags bytes cas_unique q is small below few =
    rw (
      is_key-passes key is,
      number_in-decimal flags (omega arith),
      lt-ltb flags (2 ^ 32) small,
      number_in-decimal bytes below,
      number_in-decimal cas_unique few,
      noreply_in-field q,
    ) refl

-- a key and a number
counted_reads : (key : Bytes) (n : ℕ) (q : Bool) → IsKey key → n < 2 ^ 64
    → counted_in (key ∷ decimal n ∷ noreply_field q) ≡ Some (key, n, q)
counted_reads key n q is lt = rw (is_key-passes key is, number_in-decimal n lt, noreply_in-field q) refl

-- the keys of a retrieval
keys_reads : (keys : List Bytes) → AreKeys keys → keys_in (keys ++ []) ≡ Some keys
keys_reads keys are = ap keys_in (append-nil keys) ∙ rw (keys_pass-keys 16 keys are.0 are.1 are.2) refl

-- what is spelled is read
fields_read : (head : Head) (noreply : Bool) → HasForm head → MayHave head noreply
    → Reads (fields head ++ noreply_field noreply) head noreply
fields_read (store set key flags bytes) noreply form may =
    (named.Store verbs.Set, refl, store_reads set key flags bytes noreply form.0 form.1 form.2)
fields_read (store add key flags bytes) noreply form may =
    (named.Store verbs.Add, refl, store_reads add key flags bytes noreply form.0 form.1 form.2)
fields_read (store replace key flags bytes) noreply form may =
    (named.Store verbs.Replace, refl, store_reads replace key flags bytes noreply form.0 form.1 form.2)
fields_read (store append key flags bytes) noreply form may =
    (named.Store verbs.Append, refl, store_reads append key flags bytes noreply form.0 form.1 form.2)
fields_read (store prepend key flags bytes) noreply form may =
    (named.Store verbs.Prepend, refl, store_reads prepend key flags bytes noreply form.0 form.1 form.2)
fields_read (cas key flags bytes cas_unique) noreply form may =
    (named.Cas, refl, cas_reads key flags bytes cas_unique noreply form.0 form.1 form.2 form.3)
fields_read (get keys) true form may = absurd (let no : false ≡ true = may refl in cc)
fields_read (get keys) false form may =
    (named.Get, refl, ap (option_map (λ (k : List Bytes). (get k, false))) (keys_reads keys form))
fields_read (gets keys) true form may = absurd (let no : false ≡ true = may refl in cc)
fields_read (gets keys) false form may =
    (named.Gets, refl, ap (option_map (λ (k : List Bytes). (gets k, false))) (keys_reads keys form))
fields_read (delete key) noreply form may =
    (named.Delete, refl, rw (is_key-passes key form, noreply_in-field noreply) refl)
fields_read (incr key n) noreply form may = (
  named.Incr,
  refl,
  ap (option_map (λ (x : Bytes × ℕ × Bool). (incr x.0 x.1, x.2)))
      (counted_reads key n noreply form.0 form.1),
)
fields_read (decr key n) noreply form may = (
  named.Decr,
  refl,
  ap (option_map (λ (x : Bytes × ℕ × Bool). (decr x.0 x.1, x.2)))
      (counted_reads key n noreply form.0 form.1),
)

-- a line of which nothing is said has none of the forms
pub no_form : (l word : Bytes) (args : List Bytes) (n : Name) → parts l ≡ word ∷ args
    → Some n ≡ name_in word → None ≡ head_for n args
    → (head : Head) (noreply : Bool) → ¬ (IsLineOf l head noreply)
no_form l word args n e is none head noreply of =
    let spelled : fields head ++ noreply_field noreply ≡ word ∷ args =
    sym (ap parts of.2 ∙ parts-line head noreply of.0) ∙ e in
    let read : Reads (word ∷ args) head noreply =
    subst (λ (t : List Bytes). Reads t head noreply) spelled (fields_read head noreply of.0 of.1) in
    let same : read.0 ≡ n = same_Some _ _ (sym read.1 ∙ sym is) in
    let made = ap (λ (m : Name). head_for m args) same in
    let found = read.2 in
    cc

-- ---- where the key stands

-- behind the first field and a space
pub head_place-name : (head : heads.Head) (q : Bool) (word : Bytes)
    → word ≡ slice_index_or (fields (head_of head) ++ noreply_field q) 0 []
    → length word + 1 ≡ head_place head
head_place-name (lines.Store verb key flags bytes) q word e = ap (λ (t : Bytes). length t + 1) e
head_place-name (lines.Cas key flags bytes cas_unique) q word e = ap (λ (t : Bytes). length t + 1) e
head_place-name (lines.Get keys) q word e = ap (λ (t : Bytes). length t + 1) e
head_place-name (lines.Gets keys) q word e = ap (λ (t : Bytes). length t + 1) e
head_place-name (lines.Delete key) q word e = ap (λ (t : Bytes). length t + 1) e
head_place-name (lines.Incr key value) q word e = ap (λ (t : Bytes). length t + 1) e
head_place-name (lines.Decr key value) q word e = ap (λ (t : Bytes). length t + 1) e
