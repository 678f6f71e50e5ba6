-- What a history keeps: all numbers that were given are marked on disk, and those of this life are below each client's.
use Rattle.std.proofs.Common.{◌≡◌, ◌≢◌, ℕ, ◌+◌, ◌<◌, ◌≤◌, ◌==◌, ◌&&◌, Bool, true, false, cond, List, [], ◌∷◌}
use Rattle.std.proofs.Common.{Option, Some, None, Ok, Err, arith, refl, sym, ap, ◌∙◌, nat_lt, subst}
use Rattle.std.specs.Prelude.{if◌then◌else◌, Result}
use Rattle.std.specs.List.{AllByRecursion}
use Rattle.std.proofs.lemmas.Bool.Decides.{nat_tests}
use Rattle.ids.specs.Sizes.{client_party}
use Rattle.state_marks.specs.declared.refusal.Refusal.{Refusal}
use Rattle.state_marks.specs.declared.refusal.Refusal.TheVariants.{HasSpoken}
use Rattle.state_marks.specs.Marking.{Numbers, begun}
use Rattle.state_marks.specs.Laws.{Standing, Event, begins, keeps, goes_by_it, gives, crashes, Lead, Rise}
use Rattle.state_marks.specs.Laws.{nothing, with_given}

each : {X : Type 0} (P Q : X → Type 0) → ((x : X) → P x → Q x) → (xs : List X) → AllByRecursion P xs
    → AllByRecursion Q xs
each P Q more [] all = tt
each P Q more (x ∷ xs) all = (more x all.0, each P Q more xs all.1)

both : {X : Type 0} (P Q : X → Type 0) (xs : List X) → AllByRecursion P xs → AllByRecursion Q xs
    → AllByRecursion (λ x. P x × Q x) xs
both P Q [] p q = tt
both P Q (x ∷ xs) p q = ((p.0, q.0), both P Q xs p.1 q.1)

-- what holds while the process runs
record Runs (s : Standing) (n : Numbers) : Type 0 where
  low : n.marked ≤ s.disk
  marked : AllByRecursion (λ (g : ℕ × ℕ). g.1 ≤ n.marked) s.given
  below : AllByRecursion (λ (g : ℕ × ℕ). g.1 ≤ s.used g.0) s.given

record Kept (s : Standing) : Type 0 where
  on_disk : AllByRecursion (λ (g : ℕ × ℕ). (1 ≤ g.1) × (g.1 ≤ s.disk)) s.given
  rise : Rise s.given
  runs : (n : Numbers) → s.runs ≡ Some n → Runs s n

begun_behind : (party mark : ℕ) (n : Numbers) → begun party mark ≡ Ok n
    → n ≡ record { behind = mark; marked = mark }
begun_behind party mark n e = by (nat_lt party (client_party 0) && nat_lt 0 mark) e
  where
    by : (refused : Bool)
        → (if refused then (Err HasSpoken) else Ok (record { behind = mark; marked = mark })) ≡ Ok n
        → n ≡ record { behind = mark; marked = mark }
    by true e = absurd (cc e)
    by false e = cc e

after_begins : (s : Standing) (n : Numbers) → n ≡ record { behind = s.disk; marked = s.disk } → Kept s
    → Kept (record s { runs = Some n; used = λ _. n.behind })
after_begins s n is kept = record {
  on_disk = kept.on_disk;
  rise = kept.rise;
  runs = λ m same.
      let e : m ≡ record { behind = s.disk; marked = s.disk } = cc (same, is) in
      let high : m.marked ≡ s.disk = ap (λ (x : Numbers). x.marked) e in
      let start : n.behind ≡ s.disk = ap (λ (x : Numbers). x.behind) is in
      record {
        low = omega (arith, high);
        marked =
            each (λ (g : ℕ × ℕ). (1 ≤ g.1) × (g.1 ≤ s.disk)) (λ (g : ℕ × ℕ). g.1 ≤ m.marked)
            (λ g h. omega (arith, high, h.1)) s.given kept.on_disk;
        below =
            each (λ (g : ℕ × ℕ). (1 ≤ g.1) × (g.1 ≤ s.disk)) (λ (g : ℕ × ℕ). g.1 ≤ n.behind)
            (λ g h. omega (arith, start, h.1)) s.given kept.on_disk;
      };
}

after_keeps : (s : Standing) (n : Numbers) (mark : ℕ) → s.runs ≡ Some n → n.marked ≤ mark → Kept s
    → Kept (record s { disk = mark })
after_keeps s n mark is above kept =
    let now = kept.runs n is in record {
      on_disk =
          each (λ (g : ℕ × ℕ). ((1 ≤ g.1) × (g.1 ≤ s.disk)) × (g.1 ≤ n.marked))
          (λ (g : ℕ × ℕ). (1 ≤ g.1) × (g.1 ≤ mark))
          (λ g h. (h.0.0, omega (arith, h.1, above))) s.given
          (both (λ (g : ℕ × ℕ). (1 ≤ g.1) × (g.1 ≤ s.disk)) (λ (g : ℕ × ℕ). g.1 ≤ n.marked) s.given
          kept.on_disk now.marked);
      rise = kept.rise;
      runs = λ m same.
          let e : m ≡ n = cc (same, is) in
          let equal : m.marked ≡ n.marked = ap (λ (x : Numbers). x.marked) e in
          record {
            low = omega (arith, equal, above);
            marked = rw equal now.marked;
            below = now.below;
          };
    }

after_goes : (s : Standing) (n : Numbers) → s.runs ≡ Some n → Kept s
    → Kept (record s { runs = Some (record n { marked = s.disk }) })
after_goes s n is kept =
    let now = kept.runs n is in record {
      on_disk = kept.on_disk;
      rise = kept.rise;
      runs = λ m same.
          let e : m ≡ record n { marked = s.disk } = cc (same) in
          let equal : m.marked ≡ s.disk = ap (λ (x : Numbers). x.marked) e in
          record {
            low = omega (arith, equal);
            marked =
                each (λ (g : ℕ × ℕ). (1 ≤ g.1) × (g.1 ≤ s.disk)) (λ (g : ℕ × ℕ). g.1 ≤ m.marked)
                (λ g h. omega (arith, equal, h.1)) s.given kept.on_disk;
            below = now.below;
          };
    }

-- what a client gave is no more than its last number, now that this is one more
still_below : (client : ℕ) (s : Standing) (g : ℕ × ℕ) → g.1 ≤ s.used g.0 → g.1 ≤ (with_given client s).used g.0
still_below client s g low = by (g.0 == client) refl
  where
    by : (is : Bool) → (g.0 == client) ≡ is
        → g.1 ≤ (if is then s.used client + 1 else s.used g.0)
    by true is =
        let same : g.0 ≡ client = grind (arith, nat_tests) in
        let last : s.used g.0 ≡ s.used client = ap s.used same in
        omega (arith, low, last)
    by false is = low

-- the client's own is one more
own_last : (client : ℕ) (s : Standing) → (with_given client s).used client ≡ s.used client + 1
own_last client s = by (client == client) refl
  where
    by : (is : Bool) → (client == client) ≡ is
        → (if is then s.used client + 1 else s.used client) ≡ s.used client + 1
    by true is = refl
    by false is = let other : client ≢ client = grind (arith, nat_tests) in absurd (other refl)

after_gives : (s : Standing) (n : Numbers) (client : ℕ) → s.runs ≡ Some n → s.used client + 1 ≤ n.marked
    → Kept s → Kept (with_given client s)
after_gives s n client is covered kept =
    let now = kept.runs n is in
    let low = now.low in
    record {
      on_disk = ((omega arith, omega (arith, covered, low)), kept.on_disk);
      rise = (
        each (λ (g : ℕ × ℕ). g.1 ≤ s.used g.0) (λ (g : ℕ × ℕ). g.0 ≡ client → g.1 < s.used client + 1)
            (λ g h same. let last : s.used g.0 ≡ s.used client = ap s.used same in omega (arith, h, last)) s.given
            now.below,
        kept.rise,
      );
      runs = λ m same.
          let e : m ≡ n = cc (same, is) in
          let equal : m.marked ≡ n.marked = ap (λ (x : Numbers). x.marked) e in
          record {
            low = omega (arith, equal, low);
            marked = (
              omega (arith, equal, covered),
              each (λ (g : ℕ × ℕ). g.1 ≤ n.marked) (λ (g : ℕ × ℕ). g.1 ≤ m.marked)
                  (λ g h. omega (arith, equal, h)) s.given now.marked,
            );
            below = (
              omega (arith, own_last client s),
              each (λ (g : ℕ × ℕ). g.1 ≤ s.used g.0) (λ (g : ℕ × ℕ). g.1 ≤ (with_given client s).used g.0)
                  (still_below client s) s.given now.below,
            );
          };
    }

after_crashes : (s : Standing) → Kept s → Kept (record s { runs = None })
after_crashes s kept =
    record { on_disk = kept.on_disk; rise = kept.rise; runs = λ m same. absurd (cc same) }

is_kept : (party : ℕ) (events : List Event) (s new : Standing) → Lead party s events new → Kept s → Kept new
is_kept party [] s new h kept = rw h kept
is_kept party (begins ∷ events) s new h kept =
    is_kept party events (record s { runs = Some h.0; used = λ _. h.0.behind }) new h.2
    (after_begins s h.0 (begun_behind party s.disk h.0 h.1) kept)
is_kept party (keeps mark ∷ events) s new h kept =
    is_kept party events (record s { disk = mark }) new h.3 (after_keeps s h.0 mark h.1 h.2 kept)
is_kept party (goes_by_it ∷ events) s new h kept =
    is_kept party events (record s { runs = Some (record h.0 { marked = s.disk }) }) new h.2
    (after_goes s h.0 h.1 kept)
is_kept party (gives client ∷ events) s new h kept =
    is_kept party events (with_given client s) new h.3 (after_gives s h.0 client h.1 h.2 kept)
is_kept party (crashes ∷ events) s new h kept =
    is_kept party events (record s { runs = None }) new h (after_crashes s kept)

kept_first : Kept nothing
kept_first = record { on_disk = tt; rise = tt; runs = λ m same. absurd (cc same) }

pub all_rise : (party : ℕ) (events : List Event) (s : Standing) → Lead party nothing events s → Rise s.given
all_rise party events s h = (is_kept party events nothing s h kept_first).rise

marks_something : (disk : ℕ) (given : List (ℕ × ℕ))
    → AllByRecursion (λ (g : ℕ × ℕ). (1 ≤ g.1) × (g.1 ≤ disk)) given → given ≢ [] → 0 < disk
marks_something disk [] all some = absurd (some refl)
marks_something disk (g ∷ gs) all some = omega (arith, all.0.0, all.0.1)

pub one_life : (party : ℕ) (events : List Event) (s : Standing) → party < client_party 0
    → Lead party nothing events s → s.given ≢ [] → begun party s.disk ≡ Err HasSpoken
one_life party events s replica h some =
    let kept = is_kept party events nothing s h kept_first in
    let marks : 0 < s.disk = marks_something s.disk s.given kept.on_disk some in
    let first : nat_lt party (client_party 0) ≡ true = grind (arith, nat_tests) in
    let second : nat_lt 0 s.disk ≡ true = grind (arith, nat_tests) in
    rw (first, second) refl
