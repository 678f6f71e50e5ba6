use Rattle.std.proofs.Common.{ap, ◌∙◌}
use Rattle.std.specs.BTreeMap.{insert_entry}
use Rattle.std.specs.Ordering.{nat_cmp}
use Rattle.std.specs.Cmp.Lexicographic.{slice_cmp}
use Rattle.vote_collector.proofs.Entries.{written-more, written-same, written-first, on_ok, on_err}
use Rattle.vote_collector.proofs.kept_blocks.add_to.Goals as goal

pub returns-in-Some-clause-kept : goal.returns-in-Some-clause-kept
returns-in-Some-clause-kept c =
    on_ok c.insert.result c.insert.ensures.inserted (λ e.
    written-more c.args.digest c.args.blocks.now.entries c.args.height c.args.vote c.in-Some.votes.now
    c.insert.new.self _ c.in-Some.ensures.value (c.get_mut.follows.holds c.insert.new.self).0 e)

pub returns-in-Some-clause-unchanged : goal.returns-in-Some-clause-unchanged
returns-in-Some-clause-unchanged c =
    on_err c.insert.result c.insert.ensures.unchanged (λ e.
    written-same c.args.digest c.args.blocks.now.entries c.in-Some.votes.now c.insert.new.self _
    c.in-Some.ensures.value (c.get_mut.follows.holds c.insert.new.self).0 e)

pub returns-in_ok-insert-in-None-clause-kept : goal.returns-in_ok-insert-in-None-clause-kept
returns-in_ok-insert-in-None-clause-kept c =
    written-first c.args.digest c.args.blocks.now.entries c.args.height c.args.vote
    c.in_ok-votes-in-None.votes _ c.in-None.ensures.value
    (c.in_ok-insert-in-None.ensures.entries
    ∙ ap (λ m. insert_entry (slice_cmp nat_cmp) m.entries c.args.digest c.in_ok-votes-in-None.votes)
    c.get_mut.follows.holds-at-none)
    c.in_ok-votes-in-None.ensures
