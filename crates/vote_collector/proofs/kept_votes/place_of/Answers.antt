use Rattle.std.proofs.Common.{ap, ◌∙◌, length, nat_lt, Option, ℕ}
use Rattle.std.specs.Option.{unwrap_or}
use Rattle.definitions.specs.Frames.{Vote}
use Rattle.vote_collector.proofs.Kept.{place_or_end}
use Rattle.vote_collector.proofs.kept_votes.place_of.Goals as goal

pub returns-clause-place : goal.returns-clause-place
returns-clause-place c =
    c.unwrap_or.ensures ∙ ap (λ (o : Option ℕ). unwrap_or o (length c.args.votes.now)) c.first_above.ensures
    ∙ place_or_end (λ (b : Vote). nat_lt c.args.voter b.voter) c.args.votes.now
