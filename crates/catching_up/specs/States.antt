-- What a replica asked, and what came of it.
use Rattle.std.specs.Prelude.{ℕ, ◌≡◌, ◌-◌, ◌*◌, ◌/◌, ◌^◌, ◌<◌, ◌==◌, ◌&&◌, ◌||◌, not, max, min, nat_le, nat_lt, Bool, false, true}
use Rattle.std.specs.Prelude.{if◌then◌else◌, is_some, Option, Some, None}
use Rattle.std.specs.Option.{option_map_or}
use Rattle.ids.specs.Sizes.{Sizes, replicas}
use Rattle.catching_up.specs.declared.pace.Pace.{Pace}
use Rattle.catching_up.specs.declared.question.Question.{Question}
use Rattle.catching_up.specs.Told.{more}
use Rattle.catching_up.specs.Turns.{next_peer}

-- Times are milliseconds.
pub record CatchingUp : Type 0 where
  pub replicas : ℕ  -- how many there are
  pub own : ℕ  -- which of them it is
  pub pace : Pace
  pub height : ℕ  -- up to which it had executed when it was looked at last
  pub peer : ℕ  -- who was asked last; itself before the first question
  pub since : ℕ  -- when something new came last, or the last question went out
  pub began : ℕ  -- when the peer's turn began
  pub asked : ℕ  -- when the last question went out
  pub from : Option ℕ  -- from which height the answer is that it awaits
  pub is_served : Bool  -- whether the last answer came to its end, and brought something new
  pub vain : ℕ  -- how many questions went out since something new came
  pub wait : ℕ  -- for how long an answer is awaited
  pub bytes : ℕ  -- how many are asked for at once
  pub is_away : Bool  -- whether it was far behind when it was looked at last

-- nothing was executed, and nobody asked
abbrev pub unasked : Sizes → (own : ℕ) → Pace → CatchingUp
unasked sizes own pace = record {
  replicas = replicas sizes;
  own = own;
  pace = pace;
  height = 0;
  peer = own;
  since = 0;
  began = 0;
  asked = 0;
  from = None;
  is_served = false;
  vain = 0;
  wait = pace.pause;
  bytes = pace.bytes;
  is_away = false;
}

-- the height behind one
abbrev pub next_height : ℕ → ℕ
next_height height = more height

-- ---- what is new

-- where more is executed than before, something new came
abbrev pub noted : (now height : ℕ) → CatchingUp → CatchingUp
noted now height s = if nat_lt s.height height then record s { height = height; since = now; vain = 0 } else s

-- who executed up to a height is so far behind that it asks; once it does, until it is near
abbrev pub is_far : (height foremost : ℕ) → CatchingUp → Bool
is_far height foremost s = nat_lt (if s.is_away then s.pace.near else s.pace.least) (foremost - height)

abbrev pub is_behind : (foremost : ℕ) → CatchingUp → Bool
is_behind foremost s = is_far s.height foremost s

-- it isn't far behind, and awaits nothing
abbrev pub resting : CatchingUp → CatchingUp
resting s = record s { from = None; is_served = false; is_away = false }

-- it is far behind
abbrev pub away : CatchingUp → CatchingUp
away s = record s { is_away = true }

-- ---- when a question is due, and to whom

-- a pause, and as much more for each round of questions that brought nothing, up to the longest
abbrev pub rest_of : CatchingUp → ℕ
rest_of s = min (min (s.pace.pause * more (s.vain / (s.replicas - 1))) (2 ^ 64 - 1)) s.pace.most_pause

-- nothing new came for so long; while an answer is awaited, for as long as that is, too
abbrev pub is_silent : (now : ℕ) → CatchingUp → Bool
is_silent now s = nat_le (if is_some s.from then max s.wait (rest_of s) else rest_of s) (now - s.since)

-- the peer's turn is over
abbrev pub is_over : (now : ℕ) → CatchingUp → Bool
is_over now s = nat_le s.pace.turn (now - s.began)

-- Its answer is in the midst, its turn is over, and its question was out for as long as an answer is awaited: else one that
-- takes longer than a turn would never come to its end.
abbrev pub is_late : (now : ℕ) → CatchingUp → Bool
is_late now s = is_some s.from && is_over now s && nat_le s.wait (now - s.asked)

-- A question is due at once behind an answer that brought something new; else when nothing new came for long, or the answer
-- is late.
abbrev pub is_due : (now : ℕ) → CatchingUp → Bool
is_due now s = s.is_served || is_silent now s || is_late now s

-- the same peer is asked again: its last answer brought something new, and its turn isn't over
abbrev pub stays : (now : ℕ) → CatchingUp → Bool
stays now s = s.is_served && not (is_over now s)

-- else the next one is
abbrev pub whom : (now : ℕ) → CatchingUp → ℕ
whom now s = if stays now s then s.peer else next_peer s.replicas s.own s.peer

-- the question that is due
abbrev pub due_question : (now : ℕ) → CatchingUp → Option Question
due_question now s =
    if is_due now s then Some (record { to = whom now s; from = next_height s.height; bytes = s.bytes }) else None

-- twice as much, up to the most; half as much, down to the least
abbrev pub doubled : (most : ℕ) → ℕ → ℕ
doubled most n = min (min (n * 2) (2 ^ 64 - 1)) most

abbrev pub halved : (least : ℕ) → ℕ → ℕ
halved least n = max (n / 2) least

-- It went out. Where the last one's answer hasn't come, that was awaited too short, or asked for too much.
abbrev pub asked : (now : ℕ) → CatchingUp → CatchingUp
asked now s = record s {
  peer = whom now s;
  since = now;
  began = if stays now s then s.began else now;
  asked = now;
  from = Some (next_height s.height);
  is_served = false;
  vain = more s.vain;
  wait = if is_some s.from then doubled s.pace.most_pause s.wait else s.wait;
  bytes = if is_some s.from then halved s.pace.bytes s.bytes else s.bytes;
}

-- ---- what is done at a look

abbrev pub asked_by_look : (now height foremost : ℕ) → CatchingUp → Option Question
asked_by_look now height foremost s =
    if is_behind foremost (noted now height s) then due_question now (away (noted now height s)) else None

abbrev pub looked : (now height foremost : ℕ) → CatchingUp → CatchingUp
looked now height foremost s =
    if not (is_behind foremost (noted now height s)) then resting (noted now height s)
    else if is_due now (noted now height s) then asked now (away (noted now height s))
    else away (noted now height s)

-- ---- what is done behind an answer

-- it awaits the answer to this question
abbrev pub is_awaited : Question → CatchingUp → Bool
is_awaited question s = (s.peer == question.to) && option_map_or (λ from. from == question.from) s.from false

-- behind an answer that took so long the next one is awaited for twice as long, at least for a pause
abbrev pub wait_behind : (took : ℕ) → Pace → ℕ
wait_behind took pace = max (doubled pace.most_pause took) pace.pause

-- the answer came to its end, and served
abbrev pub served : (now : ℕ) → CatchingUp → CatchingUp
served now s = record s {
  from = None;
  is_served = true;
  wait = wait_behind (now - s.asked) s.pace;
  bytes = halved s.pace.bytes s.bytes;
}

-- it came to its end in vain: it may have been too short
abbrev pub unserved : (now : ℕ) → CatchingUp → CatchingUp
unserved now s = record s {
  from = None;
  is_served = false;
  wait = wait_behind (now - s.asked) s.pace;
  bytes = doubled s.pace.most_bytes s.bytes;
}

-- it served, where the height that it was asked from was executed by then
abbrev pub after_answer : (now : ℕ) → Question → CatchingUp → CatchingUp
after_answer now question s =
    if not (is_awaited question s) then s
    else if nat_le question.from s.height then served now s
    else unserved now s

-- ---- what always holds

pub record IsSound (s : CatchingUp) : Type 0 where
  pub others : 1 < s.replicas
  pub own : s.own < s.replicas  -- it is one of the replicas
  pub peer : s.peer < s.replicas  -- and so is who was asked
  pub awaiting : (is_some s.from && s.is_served) ≡ false  -- what it awaits hasn't served yet
