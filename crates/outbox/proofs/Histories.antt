-- What an outbox gives and counts over a history of calls.
use Rattle.std.proofs.Common.{◌≡◌, ◌∙◌, ◌+◌, ◌^◌, ◌<◌, ◌≤◌, List, [], ◌∷◌, ◌++◌, length, sym, ap, arith}
use Rattle.std.proofs.Common.{append_assoc, length-append, true}
use Rattle.std.proofs.lemmas.List.{append-nil}
use Rattle.definitions.specs.Bytes.{Bytes}
use Rattle.std.proofs.lemmas.List.Sums.{sum_by-append}
use Rattle.outbox.specs.Waiting.{Waiting, cost_of, cost, counted, closed}
use Rattle.outbox.specs.Laws.{Call, kept, lost, took, closes, reopens, Lead, all_kept, all_left, all_taken, puts}

pub in_order : (calls : List Call) (w new : Waiting) → Lead w calls new
    → w.frames ++ all_kept calls ≡ all_left calls ++ new.frames
in_order [] w new h = append-nil w.frames ∙ ap (λ (v : Waiting). v.frames) (sym h)
in_order (kept frame ∷ calls) w new h =
    sym (append_assoc w.frames (frame ∷ []) (all_kept calls))
    ∙ in_order calls (record w { frames = w.frames ++ frame ∷ [] }) new h.1
in_order (lost ∷ calls) w new h = in_order calls (record w { lost = counted w.lost 1 }) new h
in_order (took frames ∷ calls) w new h =
    ap (λ (l : List Bytes). l ++ all_kept calls) h.1
    ∙ (append_assoc frames h.0 (all_kept calls)
    ∙ (ap (λ (l : List Bytes). frames ++ l) (in_order calls (record w { frames = h.0 }) new h.2)
    ∙ sym (append_assoc frames (all_left calls) new.frames)))
in_order (closes frames ∷ calls) w new h =
    ap (λ (l : List Bytes). l ++ all_kept calls) h.0
    ∙ (ap (λ (l : List Bytes). frames ++ l) (in_order calls (closed w) new h.1)
    ∙ sym (append_assoc frames (all_left calls) new.frames))
in_order (reopens ∷ calls) w new h = in_order calls (record w { is_open = true }) new h

pub each_counted : (calls : List Call) (w new : Waiting) → Lead w calls new
    → length w.frames + w.lost + puts calls < 2 ^ 64
    → length w.frames + w.lost + puts calls ≡ length (all_taken calls) + length new.frames + new.lost
each_counted [] w new h few =
    omega (arith, ap (λ (v : Waiting). length v.frames) h, ap (λ (v : Waiting). v.lost) h)
each_counted (kept frame ∷ calls) w new h few =
    let more = length-append w.frames (frame ∷ []) in
    omega (
      arith,
      more,
      each_counted calls (record w { frames = w.frames ++ frame ∷ [] }) new h.1 (omega (arith, more, few)),
    )
each_counted (lost ∷ calls) w new h few =
    let one : counted w.lost 1 ≡ w.lost + 1 = omega (arith, few) in
    omega (
      arith,
      one,
      each_counted calls (record w { lost = counted w.lost 1 }) new h (omega (arith, one, few)),
    )
each_counted (took frames ∷ calls) w new h few =
    let parts : length w.frames ≡ length frames + length h.0 =
    ap (λ (l : List Bytes). length l) h.1 ∙ length-append frames h.0 in
    omega (
      arith,
      parts,
      length-append frames (all_taken calls),
      each_counted calls (record w { frames = h.0 }) new h.2 (omega (arith, parts, few)),
    )
each_counted (closes frames ∷ calls) w new h few =
    let all : counted w.lost (length w.frames) ≡ w.lost + length w.frames = omega (arith, few) in
    omega (arith, all, each_counted calls (closed w) new h.1 (omega (arith, all, few)))
each_counted (reopens ∷ calls) w new h few = each_counted calls (record w { is_open = true }) new h few

pub within_bound : (calls : List Call) (w new : Waiting) → Lead w calls new → cost w.frames ≤ w.most
    → cost new.frames ≤ w.most
within_bound [] w new h fits = omega (arith, ap (λ (v : Waiting). cost v.frames) h, fits)
within_bound (kept frame ∷ calls) w new h fits =
    within_bound calls (record w { frames = w.frames ++ frame ∷ [] }) new h.1
    (omega (arith, h.0, sum_by-append cost_of w.frames (frame ∷ [])))
within_bound (lost ∷ calls) w new h fits = within_bound calls (record w { lost = counted w.lost 1 }) new h fits
within_bound (took frames ∷ calls) w new h fits =
    within_bound calls (record w { frames = h.0 }) new h.2
    (omega (arith, fits, ap (λ (l : List Bytes). cost l) h.1, sum_by-append cost_of frames h.0))
within_bound (closes frames ∷ calls) w new h fits = within_bound calls (closed w) new h.1 (omega arith)
within_bound (reopens ∷ calls) w new h fits = within_bound calls (record w { is_open = true }) new h fits
