-- What a replica's window shows, height by height.
use Rattle.std.proofs.Common.{◌≡◌, ℕ, zero, suc, ◌+◌, ◌-◌, ◌<◌, ◌≤◌, ◌==◌, ◌&&◌, ◌||◌, Bool, true, false, List, [], ◌∷◌, ◌++◌}
use Rattle.std.proofs.Common.{length, max, refl, sym, ap, subst, ◌∙◌, arith, inl, inr, Option, Some, None, cond, nat_lt, nat_le}
use Rattle.std.specs.Prelude.{option_map, slice_get, unwrap_or}
use Rattle.std.proofs.lemmas.Bool.{cases_lt, cases_eq}
use Rattle.std.proofs.lemmas.Bool.Decides.{nat_tests}
use Rattle.std.proofs.lemmas.Option.{slice_get_past}
use Rattle.definitions.specs.Bytes.{Bytes}
use Rattle.definitions.specs.Lists.{beginning}
use Rattle.definitions.specs.Branches.{Branch}
use Rattle.definitions.specs.Digests.{digest, digest_of}
use Rattle.definitions.specs.Frames.{genesis_core}
use Rattle.definitions.specs.Trees.{is_in_reach}
use Rattle.definitions.specs.Chronicles.{Chronicle, executed, horizon}
use Rattle.definitions.specs.Audit.{Member}
use Rattle.definitions.specs.WindowAudit.{shown_at, last_block}
use Rattle.definitions.proofs.Certificates.{IsDigest-digest_of}
use Rattle.definitions.proofs.Horizons.{horizon-low}
use Rattle.definitions.proofs.Lists.{length-beginning, beginning-whole}
use Rattle.audit_ground.proofs.Lists.{beginning-none}
use Rattle.deployment.proofs.Lines.{all_push, length_push}
use Rattle.ids.specs.Sizes.{Sizes}
use Rattle.definitions.specs.Replicas.{Replica}
use Rattle.window_files.specs.declared.head.Head.{Head}
use Rattle.window_files.specs.Files.{Window, IsDigest, shown, last_digest, count_of}
use Rattle.window_files.specs.Windows.{IsWindowOf, told_at, AreTold, AreShown, head_of}

-- whether it is, is the same whichever way it is asked
is_told : ℕ → Chronicle → Bool
is_told h c =
    nat_le h (length (executed c)) && (is_in_reach (horizon c) (beginning h (executed c)) || (h == 0))

told_as : (h : ℕ) (c : Chronicle) (t : Bool) → is_told h c ≡ t
    → told_at c h ≡ option_map digest_of (cond t (Some (beginning h (executed c))) None)
unfolding shown_at is_told
told_as h c t e = rw e refl

-- in reach it is
pub told_there : (h : ℕ) (c : Chronicle) → h ≤ length (executed c) → horizon c ≤ h + 2
    → told_at c h ≡ Some (digest_of (beginning h (executed c)))
unfolding is_told
told_there h c low reach =
    let long = length-beginning h (executed c) low in
    let first : nat_le h (length (executed c)) ≡ true = grind (arith, nat_tests) in
    let second : nat_le (horizon c) (length (beginning h (executed c)) + 2) ≡ true = grind (arith, nat_tests) in
    let told : is_told h c ≡ true = rw (first, second) refl in
    told_as h c true told

-- above the last block, and below the window, it isn't
pub told_above : (h : ℕ) (c : Chronicle) → length (executed c) < h → told_at c h ≡ None
unfolding is_told
told_above h c high =
    let first : nat_le h (length (executed c)) ≡ false = grind (arith, nat_tests) in
    let told : is_told h c ≡ false = rw first refl in
    told_as h c false told

pub told_below : (h : ℕ) (c : Chronicle) → h ≤ length (executed c) → 1 ≤ h → h + 2 < horizon c → told_at c h ≡ None
unfolding is_told
told_below h c low some below =
    let long = length-beginning h (executed c) low in
    let first : nat_le h (length (executed c)) ≡ true = grind (arith, nat_tests) in
    let second : nat_le (horizon c) (length (beginning h (executed c)) + 2) ≡ false = grind (arith, nat_tests) in
    let third : (h == 0) ≡ false = grind (arith, nat_tests) in
    let told : is_told h c ≡ false = rw (first, second, third) refl in
    told_as h c false told

-- genesis always is
pub told_genesis : (c : Chronicle) → told_at c 0 ≡ Some (digest genesis_core)
unfolding is_told digest_of
told_genesis c = by (is_in_reach (horizon c) (beginning 0 (executed c))) refl
  where
    first : nat_le 0 (length (executed c)) ≡ true
    first = grind (arith, nat_tests)

    by : (t : Bool) → is_in_reach (horizon c) (beginning 0 (executed c)) ≡ t
        → told_at c 0 ≡ Some (digest genesis_core)
    by true e =
        let told : is_told 0 c ≡ true = rw (first, e) refl in
        told_as 0 c true told ∙ ap (λ (b : Branch). Some (digest_of b)) (beginning-none (executed c))
    by false e =
        let told : is_told 0 c ≡ true = rw (first, e) refl in
        told_as 0 c true told ∙ ap (λ (b : Branch). Some (digest_of b)) (beginning-none (executed c))

-- ---- the digests from a height on

pub none_shown : (c : Chronicle) (lowest : ℕ) → AreShown c lowest 0 []
none_shown c lowest = record { fit = tt; long = refl; told = tt }

told_push : (c : Chronicle) (h n : ℕ) (ds : List Bytes) (d : Bytes) → AreTold c h ds → length ds ≡ n
    → Some d ≡ told_at c (h + n) → AreTold c h (ds ++ d ∷ [])
told_push c h n [] d told long e =
    let place : h + n ≡ h = omega (arith, long) in (subst (λ (k : ℕ). Some d ≡ told_at c k) place e, tt)
told_push c h n (x ∷ xs) d told long e =
    let place : h + n ≡ h + 1 + length xs = omega (arith, long) in
    (told.0, told_push c (h + 1) (length xs) xs d told.1 refl (subst (λ (k : ℕ). Some d ≡ told_at c k) place e))

pub one_more_shown : (c : Chronicle) (lowest low n : ℕ) (ds now : List Bytes) (d : Bytes) → AreShown c lowest n ds
    → IsDigest d → low ≡ lowest → Some d ≡ told_at c (low + n) → now ≡ ds ++ d ∷ [] → AreShown c lowest (n + 1) now
one_more_shown c lowest low n ds now d so_far fits is e pushed =
    subst (λ (xs : List Bytes). AreShown c lowest (n + 1) xs) (sym pushed) (record {
      fit = all_push IsDigest ds d so_far.fit fits;
      long = omega (arith, length_push ds d, so_far.long);
      told = told_push c lowest n ds d so_far.told so_far.long (subst (λ (k : ℕ). Some d ≡ told_at c (k + n)) is e);
    })

-- one of them
told_one : (c : Chronicle) (h i : ℕ) (ds : List Bytes) → AreTold c h ds → i < length ds
    → slice_get ds i ≡ told_at c (h + i)
told_one c h i [] told within = absurd (omega (arith, within))
told_one c h zero (d ∷ ds) told within =
    let place : h + 0 ≡ h = omega arith in told.0 ∙ ap (told_at c) (sym place)
told_one c h (suc i) (d ∷ ds) told within =
    let place : h + suc i ≡ h + 1 + i = omega arith in
    told_one c (h + 1) i ds told.1 (omega (arith, within)) ∙ ap (told_at c) (sym place)

-- ---- the window of a replica

-- as high as it executed, and as low as its window reaches, it shows what the replica's window shows
pub is_window_of : (w : Window) (m : Member) → w.head.number ≡ m.number → w.head.height ≡ length (last_block m)
    → w.head.lowest ≡ max (horizon m.replica.chronicle - 2) 1
    → AreShown m.replica.chronicle w.head.lowest (w.head.height - (w.head.lowest - 1)) w.digests
    → IsWindowOf w m
is_window_of w m number high low are = record {
  number = number;
  height = high;
  shows = λ h. elim (cases_eq 0 h) [
    | inl e ↦ subst (λ (k : ℕ). shown k w ≡ told_at c k) e (sym (told_genesis c))
    | inr n ↦ above h n
  ];
}
  where
    c : Chronicle
    c = m.replica.chronicle

    above : (h : ℕ) → (0 ≡ h → ⊥) → shown h w ≡ told_at m.replica.chronicle h
    above h n =
        let some : 1 ≤ h = omega (arith, n) in
        let zero : (h == 0) ≡ false = grind (arith, nat_tests) in
        elim (cases_lt h w.head.lowest) [
          | inl below ↦ (
              let first : nat_lt h w.head.lowest ≡ true = grind (arith, nat_tests) in
              let left : shown h w ≡ None = rw (zero, first) refl in
              left ∙ sym (none_below h some below))
          | inr over ↦ (
              let first : nat_lt h w.head.lowest ≡ false = grind (arith, nat_tests) in
              let left : shown h w ≡ slice_get w.digests (h - w.head.lowest) = rw (zero, first) refl in
              left ∙ within h some over)
        ]
      where
        none_below : (h : ℕ) → 1 ≤ h → h < w.head.lowest → told_at m.replica.chronicle h ≡ None
        none_below h some below = elim (cases_lt (length (last_block m)) h) [
          | inl up ↦ told_above h m.replica.chronicle up
          | inr in_reach ↦ told_below h m.replica.chronicle in_reach some (omega (arith, below, low))
        ]

        within : (h : ℕ) → 1 ≤ h → w.head.lowest ≤ h
            → slice_get w.digests (h - w.head.lowest) ≡ told_at m.replica.chronicle h
        within h some over = elim (cases_lt (length (last_block m)) h) [
          | inl up ↦
              slice_get_past w.digests (h - w.head.lowest) (omega (arith, are.long, high, up, low, over))
              ∙ sym (told_above h m.replica.chronicle up)
          | inr in_reach ↦ (
              let place : w.head.lowest + (h - w.head.lowest) ≡ h = omega (arith, over) in
              told_one m.replica.chronicle w.head.lowest (h - w.head.lowest) w.digests are.told
              (omega (arith, are.long, high, in_reach, low, over))
              ∙ ap (told_at m.replica.chronicle) place)
        ]

-- its last digest is that of the replica's last executed block
pub own_last : (w : Window) (m : Member) → IsWindowOf w m → last_digest w ≡ digest_of (last_block m)
own_last w m is =
    let at : shown w.head.height w ≡ told_at m.replica.chronicle (length (last_block m)) =
    is.shows w.head.height ∙ ap (told_at m.replica.chronicle) is.height in
    let there = told_there (length (last_block m)) m.replica.chronicle (omega arith)
    (let low = horizon-low m.replica.chronicle in omega (arith, low)) in
    let whole = beginning-whole (last_block m) in
    ap (λ (o : Option Bytes). unwrap_or o (digest genesis_core)) (at ∙ there) ∙ ap digest_of whole

-- within the window of a replica a digest is shown
pub told_within : (sizes : Sizes) (number : ℕ) (r : Replica) (h : Head) (low i : ℕ)
    → h ≡ head_of sizes (record { number = number; replica = r }) → low ≡ h.lowest → i < count_of h
    → told_at r.chronicle (low + i) ≡ Some (digest_of (beginning (low + i) (executed r.chronicle)))
told_within sizes number r h low i own is below =
    let height : h.height ≡ length (executed r.chronicle) = ap (λ (x : Head). x.height) own in
    let lowest : h.lowest ≡ max (horizon r.chronicle - 2) 1 = ap (λ (x : Head). x.lowest) own in
    told_there (low + i) r.chronicle (omega (arith, height, lowest, is, below)) (omega (arith, lowest, is))

-- and has the length of one
pub long_enough : (d : Bytes) (o : Option Bytes) (b : Branch) → o ≡ Some d → o ≡ Some (digest_of b) → length d ≡ 32
long_enough d o b e i = let same : d ≡ digest_of b = cc in ap length same ∙ IsDigest-digest_of b
