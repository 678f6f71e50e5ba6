-- How long a peer stays out that told a length that no item has. Moments are milliseconds.
use Rattle.std.specs.Prelude.{ℕ, ◌+◌, ◌*◌, ◌-◌, ◌^◌, min, nat_le, if◌then◌else◌}
use Rattle.tuning.specs.declared.clients.TheConstants.{MOST_DOUBLINGS}
use Rattle.wires.specs.declared.bar.Bar.{Bar}
use Rattle.wires.specs.declared.end.End.{End}
use Rattle.wires.specs.declared.end.End.TheVariants.{Closed, Failed, BadLength, Memory}

-- a moment, or a while, that stops at the greatest number
abbrev capped : ℕ → ℕ
capped millis = min millis (2 ^ 64 - 1)

-- how long it stays out that told such a length so often before: twice as long each time, up to so often
abbrev pub bar_of : (first times : ℕ) → ℕ
bar_of first times = capped (first * 2 ^ min times MOST_DOUBLINGS)

-- how often it counts as having told one, by a moment: no more, once its bar was over for as long as the longest bar
abbrev pub times_by : Bar → (now : ℕ) → ℕ
times_by bar now = if nat_le (bar_of bar.first MOST_DOUBLINGS) (now - bar.until) then 0 else bar.times

-- it told one more
abbrev pub lengthened : Bar → (now : ℕ) → Bar
lengthened bar now = record bar {
  until = capped (now + bar_of bar.first (times_by bar now));
  times = min (times_by bar now + 1) (2 ^ 32 - 1);
}

-- its connection ended so
abbrev pub bar_after : Bar → End → (now : ℕ) → Bar
bar_after bar BadLength now = lengthened bar now
bar_after bar Closed now = bar
bar_after bar Failed now = bar
bar_after bar Memory now = bar
