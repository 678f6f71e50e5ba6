-- Votes that are spelled are read again.
use Rattle.std.proofs.Common.{◌≡◌, ℕ, List, [], ◌++◌, sym, ap, ◌∙◌}
use Rattle.std.specs.List.{flat_map}
use Rattle.std.proofs.lemmas.List.{append-nil}
use Rattle.ids.specs.Sizes.{Sizes, replicas}
use Rattle.definitions.specs.Bytes.{Bytes}
use Rattle.definitions.specs.Frames.{Vote, vote_bytes}
use Rattle.definitions.specs.FrameLimits.{IsVote}
use Rattle.frames_view.specs.Readings.{elements}
use Rattle.frames_view.specs.Parts.{vote_in}
use Rattle.frames_view.specs.Spelled.{AreVotes}
use Rattle.frames_view.proofs.Exact.{elements_again}
use Rattle.frames_view.proofs.Parts.{AreFew, IsExact-vote}

pub votes_again : (sizes : Sizes) → AreFew sizes → (count : ℕ) (bytes : Bytes) (vs : List Vote)
    → AreVotes sizes count bytes vs → elements (vote_in (replicas sizes)) count bytes ≡ vs
votes_again sizes few count bytes vs h =
    let read = vote_in (replicas sizes) in
    let text = flat_map vote_bytes vs in
    ap (elements read count) (h.2 ∙ sym (append-nil text))
    ∙ ap (λ (n : ℕ). elements read n (text ++ [])) (sym h.1)
    ∙ elements_again (IsVote sizes) vote_bytes read (IsExact-vote sizes few) vs [] h.0
