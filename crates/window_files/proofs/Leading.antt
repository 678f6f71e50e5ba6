-- The window that leads, and how the others stand to it; and what that tells of replicas.
use Rattle.std.proofs.Common.{◌≡◌, ◌≢◌, ◌↔◌, ℕ, ◌+◌, ◌-◌, ◌<◌, ◌≤◌, Bool, true, false, bytes_eq, List, [], ◌∷◌, ◌++◌, length, take, drop, get_or, refl, sym}
use Rattle.std.proofs.Common.{ap, subst, ◌∙◌, arith, inl, inr, Option, Some, None}
use Rattle.std.specs.List.{All}
use Rattle.std.specs.Borrow.{Bor}
use Rattle.std.proofs.lemmas.Bool.{cases_lt}
use Rattle.std.proofs.lemmas.List.{map-append, take-append-drop, take_rest, take_all}
use Rattle.std.proofs.lemmas.List.Elements.{All-more}
use Rattle.std.proofs.lemmas.Bool.Decides.{not_from_Decides}
use Rattle.std.proofs.lemmas.Slice.Eq.{bytes_eq-Decides}
use Rattle.definitions.specs.Bytes.{Bytes}
use Rattle.definitions.specs.Lists.{Among, AreDistinct}
use Rattle.definitions.specs.Audit.{Member, Judged}
use Rattle.definitions.specs.WindowAudit as audit
use Rattle.definitions.proofs.Lists.{Among-map, Among-mapped, Among-after}
use Rattle.audit.proofs.ByNumber.{item-among}
use Rattle.audit.proofs.Lists.{each-holds, All-from_each}
use Rattle.audit.proofs.Numbers.{drop-at}
use Rattle.window_files.specs.Files.{Window, shown, last_digest}
use Rattle.window_files.specs.Judging.{numbers, files, Leads, Stands, Meets, Differs, Misses, FilesShow}
use Rattle.window_files.specs.Windows.{IsWindowOf, AreOf, told_at}
use Rattle.window_files.proofs.Shown.{own_last}

-- ---- numbers

-- none has the number
pub not_among : (ws : List (Bor Window)) (n : ℕ) → All (λ w. w.now.head.number ≢ n) ws → Among n (numbers ws) → ⊥
not_among ws n free m =
    let w = Among-map (λ (w : Bor Window). w.now.head.number) ws n m in
    each-holds (λ (w : Bor Window). w.now.head.number ≢ n) ws free w.0 w.1 (sym w.2)

-- and back
pub free_from : (ws : List (Bor Window)) (n : ℕ) → (Among n (numbers ws) → ⊥) → All (λ w. w.now.head.number ≢ n) ws
free_from ws n none = All-from_each (λ (w : Bor Window). w.now.head.number ≢ n) ws (λ w m e.
    none (subst (λ (k : ℕ). Among k (numbers ws)) e (Among-mapped (λ (x : Bor Window). x.now.head.number) ws w m)))

-- those behind a place, as the slice's range has them
abbrev pub behind : ℕ → List (Bor Window) → List (Bor Window)
behind i ws = take (length ws - (i + 1)) (drop (i + 1) ws)

-- they are distinct exactly where those from this place on are
abbrev pub AreDistinctFrom : ℕ → List (Bor Window) → Type 0
AreDistinctFrom i ws = AreDistinct (numbers ws) ↔ AreDistinct (numbers (drop i ws))

-- what is so of those from a place on, of the one there and those behind it
at_place : (ws : List (Bor Window)) (i : ℕ) (w : Bor Window) → i < length ws → w ≡ get_or ws i w
    → AreDistinctFrom i ws
    → AreDistinct (numbers ws) ↔ AreDistinct (w.now.head.number ∷ numbers (drop (i + 1) ws))
at_place ws i w l e before =
    subst (λ (xs : List (Bor Window)). AreDistinct (numbers ws) ↔ AreDistinct (numbers xs)) (drop-at ws i w l e) before

pub distinct_next : (ws : List (Bor Window)) (i : ℕ) (w : Bor Window) (n : ℕ) → i < length ws
    → w ≡ get_or ws i w → n ≡ w.now.head.number → All (λ x. x.now.head.number ≢ n) (behind i ws)
    → AreDistinctFrom i ws → AreDistinctFrom (i + 1) ws
distinct_next ws i w n l e is free before =
    let from = at_place ws i w l e before in
    let later : All (λ (x : Bor Window). x.now.head.number ≢ n) (drop (i + 1) ws) =
    subst (All (λ (x : Bor Window). x.now.head.number ≢ n)) (take_rest ws (i + 1)) free in
    let last : Among w.now.head.number (numbers (drop (i + 1) ws)) → ⊥ =
    subst (λ (k : ℕ). Among k (numbers (drop (i + 1) ws)) → ⊥) is (not_among (drop (i + 1) ws) n later) in
    (λ d. (from.0 d).1, λ d. from.1 (last, d))

pub distinct_free : (ws : List (Bor Window)) (i : ℕ) (w : Bor Window) (n : ℕ) → i < length ws
    → w ≡ get_or ws i w → n ≡ w.now.head.number → AreDistinctFrom i ws → AreDistinct (numbers ws)
    → All (λ x. x.now.head.number ≢ n) (behind i ws)
distinct_free ws i w n l e is before d =
    let own = ((at_place ws i w l e before).0 d).0 in
    subst (All (λ (x : Bor Window). x.now.head.number ≢ n)) (sym (take_rest ws (i + 1)))
    (free_from (drop (i + 1) ws) n
    (subst (λ (k : ℕ). Among k (numbers (drop (i + 1) ws)) → ⊥) (sym is) own))

-- ---- the one that leads

-- none of these executed higher
abbrev pub IsHighest : List (Bor Window) → Bor Window → Type 0
IsHighest ws w = All (λ x. x.now.head.height ≤ w.now.head.height) ws

pub file-among : (ws : List (Bor Window)) (i : ℕ) (w : Bor Window) → i < length ws → w ≡ get_or ws i w
    → Among w.now (files ws)
file-among ws i w l e = Among-mapped (λ (x : Bor Window). x.now) ws w (item-among ws i w l e)

pub first_highest : (ws : List (Bor Window)) (i : ℕ) (w : Bor Window) → i < length ws → w ≡ get_or ws i w
    → All (λ x. IsHighest ws x → ⊥) (take i ws) → IsHighest ws w → Leads (files ws) w.now
first_highest ws i w l e lower highest = record {
  before = files (take i ws);
  behind = files (drop (i + 1) ws);
  are = sym (map-append (λ (x : Bor Window). x.now) (take i ws) (w ∷ drop (i + 1) ws)) ∙ ap files whole;
  above = λ k m.
      let x = Among-map (λ (x : Bor Window). x.now) (take i ws) k m in
      elim (cases_lt k.head.height w.now.head.height) [
        | inl below ↦ below
        | inr above ↦ absurd (
            each-holds (λ (x : Bor Window). IsHighest ws x → ⊥) (take i ws) lower x.0 x.1
            (All-from_each (λ (y : Bor Window). y.now.head.height ≤ x.0.now.head.height) ws (λ y n.
            let own = each-holds (λ (y : Bor Window). y.now.head.height ≤ w.now.head.height) ws highest y n in
            let same : k.head.height ≡ x.0.now.head.height = ap (λ (v : Window). v.head.height) x.2 in
            omega (arith, own, above, same))))
      ];
  highest = λ k m.
      let x = Among-map (λ (x : Bor Window). x.now) (drop (i + 1) ws) k m in
      let own = each-holds (λ (y : Bor Window). y.now.head.height ≤ w.now.head.height) ws highest x.0
      (subst (λ (xs : List (Bor Window)). Among x.0 xs) whole
      (Among-after x.0 (take i ws) (w ∷ drop (i + 1) ws) (inr x.1))) in
      let same : k.head.height ≡ x.0.now.head.height = ap (λ (v : Window). v.head.height) x.2 in
      omega (arith, own, same);
}
  where
    whole : take i ws ++ w ∷ drop (i + 1) ws ≡ ws
    whole = ap (λ xs. take i ws ++ xs) (sym (drop-at ws i w l e)) ∙ take-append-drop i ws

-- some one is
highest_among : (w : Bor Window) (ws : List (Bor Window))
    → (m : Bor Window) × Among m (w ∷ ws)
    × ((x : Bor Window) → Among x (w ∷ ws) → x.now.head.height ≤ m.now.head.height)
highest_among w [] = (
  w,
  inl refl,
  λ x m. elim m [
    | inl e ↦ (let same = ap (λ (y : Bor Window). y.now.head.height) e in omega (arith, same))
    | inr none ↦ absurd none
  ],
)
highest_among w (v ∷ ws) =
    let more = highest_among v ws in
    elim (cases_lt more.0.now.head.height w.now.head.height) [
      | inl low ↦ (
        w,
        inl refl,
        λ x m. elim m [
          | inl e ↦ (let same = ap (λ (y : Bor Window). y.now.head.height) e in omega (arith, same))
          | inr later ↦ (let below = more.2 x later in omega (arith, below, low))
        ],
      )
      | inr high ↦ (
        more.0,
        inr more.1,
        λ x m. elim m [
          | inl e ↦ (let same = ap (λ (y : Bor Window). y.now.head.height) e in omega (arith, same, high))
          | inr later ↦ more.2 x later
        ],
      )
    ]

pub none_highest : (ws : List (Bor Window)) → All (λ x. IsHighest ws x → ⊥) ws → ws ≡ []
none_highest [] none = refl
none_highest (w ∷ ws) none =
    let m = highest_among w ws in
    absurd (each-holds (λ (x : Bor Window). IsHighest (w ∷ ws) x → ⊥) (w ∷ ws) none m.0 m.1
    (All-from_each (λ (x : Bor Window). x.now.head.height ≤ m.0.now.head.height) (w ∷ ws) m.2))

-- ---- how a window stands to it

some_none : (d : Bytes) → Some d ≡ None → ⊥
some_none d e = cc

-- which differs neither, nor is missed, is met
pub met : (k m : Window) → (Differs k m → ⊥) → (Misses k m → ⊥) → Meets k m
met k m same there = by (shown k.head.height m) refl
  where
    equal : (d : Bytes) → shown k.head.height m ≡ Some d → (t : Bool) → bytes_eq d (last_digest k) ≡ t
        → d ≡ last_digest k
    equal d e true is = (bytes_eq-Decides d (last_digest k)).0 is
    equal d e false is =
        absurd (same (d, e, not_from_Decides (bytes_eq d (last_digest k)) (bytes_eq-Decides d (last_digest k)) is))

    by : (o : Option Bytes) → shown k.head.height m ≡ o → Meets k m
    by None e = absurd (there e)
    by (Some d) e = e ∙ ap (λ (x : Bytes). Some x) (equal d e (bytes_eq d (last_digest k)) refl)

-- ---- those that were looked at

-- none of them is so, one more looked at
pub none_more : (P : Bor Window → Type 0) (ws : List (Bor Window)) (i : ℕ) (w : Bor Window) → i < length ws
    → w ≡ get_or ws i w → All (λ x. P x → ⊥) (take i ws) → (P w → ⊥) → All (λ x. P x → ⊥) (take (i + 1) ws)
none_more P ws i w l e before here =
    All-more (λ (x : Bor Window). P x → ⊥) ws i w l before (subst (λ (x : Bor Window). P x → ⊥) e here)

-- none of all
pub none_of_all : (P : Bor Window → Type 0) (ws : List (Bor Window)) (i : ℕ) → length ws ≤ i
    → All (λ x. P x → ⊥) (take i ws) → All (λ x. P x → ⊥) ws
none_of_all P ws i all before = subst (All (λ (x : Bor Window). P x → ⊥)) (take_all i ws all) before

-- none of the files
pub none_of_files : (P : Window → Type 0) (ws : List (Bor Window)) → All (λ x. P x.now → ⊥) ws → (k : Window)
    → Among k (files ws) → P k → ⊥
none_of_files P ws none k m p =
    let w = Among-map (λ (x : Bor Window). x.now) ws k m in
    each-holds (λ (x : Bor Window). P x.now → ⊥) ws none w.0 w.1 (subst P w.2 p)

-- ---- what that tells of replicas

-- the replica at the place of a window
record Split (before behind : List Window) (w : Window) (ks : Judged) : Type 0 where
  first : Judged
  member : Member
  later : Judged
  are : first ++ member ∷ later ≡ ks
  of_first : AreOf before first
  of_member : IsWindowOf w member
  of_later : AreOf behind later

split : (before behind : List Window) (w : Window) (ks : Judged) → AreOf (before ++ w ∷ behind) ks
    → Split before behind w ks
split [] behind w [] are = absurd are
split [] behind w (m ∷ ms) are = record {
  first = [];
  member = m;
  later = ms;
  are = refl;
  of_first = tt;
  of_member = are.0;
  of_later = are.1;
}
split (x ∷ xs) behind w [] are = absurd are
split (x ∷ xs) behind w (m ∷ ms) are =
    let more = split xs behind w ms are.1 in record {
      first = m ∷ more.first;
      member = more.member;
      later = more.later;
      are = ap (λ (ks : Judged). m ∷ ks) more.are;
      of_first = (are.0, more.of_first);
      of_member = more.of_member;
      of_later = more.of_later;
    }

-- the window of a replica, and the replica of a window
window_of : (ws : List Window) (ks : Judged) (k : Member) → AreOf ws ks → Among k ks
    → (w : Window) × Among w ws × IsWindowOf w k
window_of [] [] k are m = absurd m
window_of [] (x ∷ xs) k are m = absurd are
window_of (w ∷ ws) [] k are m = absurd are
window_of (w ∷ ws) (x ∷ xs) k are (inl e) = (w, inl refl, subst (λ (y : Member). IsWindowOf w y) (sym e) are.0)
window_of (w ∷ ws) (x ∷ xs) k are (inr m) =
    let more = window_of ws xs k are.1 m in (more.0, inr more.1, more.2)

replica_of : (ws : List Window) (ks : Judged) (w : Window) → AreOf ws ks → Among w ws
    → (k : Member) × Among k ks × IsWindowOf w k
replica_of [] [] w are m = absurd m
replica_of [] (x ∷ xs) w are m = absurd m
replica_of (v ∷ ws) [] w are m = absurd are
replica_of (v ∷ ws) (x ∷ xs) w are (inl e) = (x, inl refl, subst (λ (y : Window). IsWindowOf y x) (sym e) are.0)
replica_of (v ∷ ws) (x ∷ xs) w are (inr m) =
    let more = replica_of ws xs w are.1 m in (more.0, inr more.1, more.2)

-- the replica that leads, with its window
record LeadsWith (ws : List Window) (ks : Judged) (w : Window) : Type 0 where
  member : Member
  leads : audit.Leads ks member
  is : IsWindowOf w member

leads_with : (ws : List Window) (ks : Judged) (w : Window) → AreOf ws ks → Leads ws w → LeadsWith ws ks w
leads_with ws ks w are l =
    let s = split l.before l.behind w ks (subst (λ (xs : List Window). AreOf xs ks) (sym l.are) are) in
    let high = s.of_member.height in
    record {
      member = s.member;
      leads = record {
        before = s.first;
        behind = s.later;
        are = s.are;
        above = λ k m.
            let v = window_of l.before s.first k s.of_first m in
            omega (arith, l.above v.0 v.1, v.2.height, high);
        highest = λ k m.
            let v = window_of l.behind s.later k s.of_later m in
            omega (arith, l.highest v.0 v.1, v.2.height, high);
      };
      is = s.of_member;
    }

-- what the window of m shows for that of k, m's window shows for k
shown_for : (v w : Window) (k m : Member) → IsWindowOf v k → IsWindowOf w m
    → shown v.head.height w ≡ audit.shown_for k m
shown_for v w k m of_k of_m =
    of_m.shows v.head.height
    ∙ ap (told_at m.replica.chronicle) of_k.height

meets : (v w : Window) (k m : Member) → IsWindowOf v k → IsWindowOf w m → Meets v w → audit.Meets k m
meets v w k m of_k of_m h =
    sym (shown_for v w k m of_k of_m) ∙ h ∙ ap (λ (d : Bytes). Some d) (own_last v k of_k)

misses : (v w : Window) (k m : Member) → IsWindowOf v k → IsWindowOf w m → Misses v w → audit.Misses k m
misses v w k m of_k of_m h = sym (shown_for v w k m of_k of_m) ∙ h

differs : (v w : Window) (k m : Member) → IsWindowOf v k → IsWindowOf w m → Differs v w → audit.Differs k m
differs v w k m of_k of_m (d, e, n) =
    (d, sym (shown_for v w k m of_k of_m) ∙ e, λ i. n (i ∙ sym (own_last v k of_k)))

differs_back : (v w : Window) (k m : Member) → IsWindowOf v k → IsWindowOf w m → audit.Differs k m → Differs v w
differs_back v w k m of_k of_m (d, e, n) =
    (d, shown_for v w k m of_k of_m ∙ e, λ i. n (i ∙ own_last v k of_k))

-- one that stands so
abbrev stands : (R : Window → Window → Type 0) (S : Member → Member → Type 0)
    → ((v w : Window) (k m : Member) → IsWindowOf v k → IsWindowOf w m → R v w → S k m)
    → (ws : List Window) (ks : Judged) (a b : ℕ) → AreOf ws ks → (s : Stands R ws a b)
    → LeadsWith ws ks s.higher → audit.Stands S ks a b
stands R S more ws ks a b are s l =
    let k = replica_of ws ks s.lower are s.judged in record {
      lower = k.0;
      higher = l.member;
      judged = k.1;
      leads = l.leads;
      lower_number = sym k.2.number ∙ s.lower_number;
      higher_number = sym l.is.number ∙ s.higher_number;
      related = more s.lower s.higher k.0 l.member k.2 l.is s.related;
    }

-- What is said of files is what would be said of the replicas whose own they are.
pub tell_of_replicas : (ws : List Window) (ks : Judged) (v : audit.WindowVerdict) → AreOf ws ks → FilesShow ws v
    → audit.WindowsShow ks v
tell_of_replicas ws ks audit.agree are (w, leads, all) =
    let l = leads_with ws ks w are leads in
    (l.member, l.leads, λ k m. let v = window_of ws ks k are m in meets v.0 w k l.member v.2 l.is (all v.0 v.1))
tell_of_replicas ws ks (audit.fork a b) are s =
    stands Differs audit.Differs differs ws ks a b are s (leads_with ws ks s.higher are s.leads)
tell_of_replicas ws ks (audit.unmet a b) are (s, none) =
    let l = leads_with ws ks s.higher are s.leads in (
      stands Misses audit.Misses misses ws ks a b are s l,
      λ k m d. let v = window_of ws ks k are m in
          none v.0 v.1 (differs_back v.0 s.higher k l.member v.2 l.is d),
    )
