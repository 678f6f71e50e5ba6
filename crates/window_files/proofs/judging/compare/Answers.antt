use Rattle.std.proofs.Common.{sym, ap}
use Rattle.window_files.specs.Files.{Window}
use Rattle.window_files.specs.Judging.{Differs, Misses}
use Rattle.window_files.specs.declared.head.Head.{Head}
use Rattle.window_files.proofs.Leading.{met, none_of_files}
use Rattle.window_files.proofs.judging.compare.Goals as goal

pub returns-in-Some : goal.returns-in-Some
returns-in-Some c = record {
  lower = c.in-Some.other.now;
  higher = c.args.leader.now;
  judged = c.in-Some.ensures.0;
  leads = c.requires;
  lower_number = sym (ap (λ (h : Head). h.number) c.head-in-Some.ensures);
  higher_number = sym (ap (λ (h : Head). h.number) c.head.ensures);
  related = c.in-Some.ensures.1;
}

pub returns-in-Some-find : goal.returns-in-Some-find
returns-in-Some-find c = (
  record {
    lower = c.in-Some-find.missed.now;
    higher = c.args.leader.now;
    judged = c.in-Some-find.ensures.0;
    leads = c.requires;
    lower_number = sym (ap (λ (h : Head). h.number) c.head-in-Some-find.ensures);
    higher_number = sym (ap (λ (h : Head). h.number) c.head.ensures);
    related = c.in-Some-find.ensures.1;
  },
  none_of_files (λ (w : Window). Differs w c.args.leader.now) c.args.windows.now c.in_default.ensures,
)

pub returns-in-None : goal.returns-in-None
returns-in-None c = (
  c.args.leader.now,
  c.requires,
  λ k m. met k c.args.leader.now
      (none_of_files (λ (w : Window). Differs w c.args.leader.now) c.args.windows.now c.in_default.ensures k m)
      (none_of_files (λ (w : Window). Misses w c.args.leader.now) c.args.windows.now c.in-None.ensures k m),
)
