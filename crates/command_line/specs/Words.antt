-- What is said of replicas, in words.
use Rattle.std.specs.Prelude.{ℕ, List, codes}
use Rattle.audit.specs.declared.verdict.Verdict.TheVariants as audit
use Rattle.audit.specs.declared.verdict.WindowVerdict.{WindowVerdict}
use Rattle.audit.specs.declared.verdict.WindowVerdict.TheVariants.{Agree, Fork, Unmet}
use Rattle.server.specs.declared.ending.EndAudit.{EndAudit}
use Rattle.server.specs.declared.ending.EndAudit.TheVariants.{Whole, Part, Windows}

abbrev pub window_words : WindowVerdict → List ℕ
window_words Agree = codes "windows agree"
window_words (Fork lower higher) = codes "windows fork"
window_words (Unmet lower higher) = codes "windows unmet"

-- where some have forgotten, a fork of the others is one; and else it is said what the windows of all show
abbrev pub words : EndAudit → List ℕ
words (Whole audit.Agree) = codes "agree"
words (Whole (audit.Fork reason)) = codes "fork"
words (Part count (audit.Fork reason) windows) = codes "fork"
words (Part count audit.Agree windows) = window_words windows
words (Windows windows) = window_words windows
