use Rattle.std.proofs.Common.{◌≡◌, ℕ, List, Some, option_map, ap, sym}
use Rattle.clap.specs.declared.parser.matches.ArgMatches.{ArgMatches}
use Rattle.clap.specs.declared.parser.matches.Found.{Found}
use Rattle.clap.specs.Words.{found_of, rows_of, subcommand_name_of, subcommand_rows_of}
use Rattle.command_line.specs.Options.{IsBehind}
use Rattle.command_line.proofs.wanted.Wanted.read.Goals as goal

-- what was found behind a name that is this one
is_behind : (matches : ArgMatches) (named name : List ℕ) (found : Found)
    → Some named ≡ subcommand_name_of matches → named ≡ name
    → Some (rows_of found) ≡ option_map (λ behind. behind.1) (subcommand_rows_of matches)
    → IsBehind matches name found
is_behind matches named name found there same rows = record {
  named = rw (sym there) (ap Some same);
  rows = sym rows;
}

pub returns-in-Some-read-2 : goal.returns-in-Some-read-2
returns-in-Some-read-2 c = (
  found_of c.in-Some.behind.now,
  is_behind _ _ _ _ c.in-Some.ensures.name c.in-replica.is c.in-Some.ensures.rows,
  c.in-Some-read-2.ensures,
)

pub returns-in-Some-read-3 : goal.returns-in-Some-read-3
returns-in-Some-read-3 c = (
  found_of c.in-Some.behind.now,
  is_behind _ _ _ _ c.in-Some.ensures.name c.in-front.is c.in-Some.ensures.rows,
  c.in-Some-read-3.ensures,
)

pub returns-in-Some-read-4 : goal.returns-in-Some-read-4
returns-in-Some-read-4 c = (
  found_of c.in-Some.behind.now,
  is_behind _ _ _ _ c.in-Some.ensures.name c.in-ask.is c.in-Some.ensures.rows,
  c.in-Some-read-4.ensures,
)

pub returns-in-Some-read-5 : goal.returns-in-Some-read-5
returns-in-Some-read-5 c = (
  found_of c.in-Some.behind.now,
  is_behind _ _ _ _ c.in-Some.ensures.name c.in-audit.is c.in-Some.ensures.rows,
  c.in-Some-read-5.ensures,
)
