-- When there is trouble around a replica.
use Rattle.std.specs.Prelude.{ℕ, Bool, ◌+◌, ◌-◌, ◌*◌, ◌^◌, ◌==◌, ◌||◌, not, min, nat_lt, if◌then◌else◌}
use Rattle.tuning.specs.declared.clients.TheConstants.{MOST_DOUBLINGS}
use Rattle.tuning.specs.declared.clocks.TheConstants.{TROUBLE_MILLIS}
use Rattle.clock.specs.declared.trouble.Trouble.{Trouble}

-- none was met
abbrev pub no_trouble : Trouble
no_trouble = record { view = 0; doubted = 0; until = 0; lasts = 0 }

-- the view is another one than before, or one more certificate wasn't good for it
abbrev pub met : Trouble → (view doubted : ℕ) → Bool
met t view doubted = not (view == t.view) || not (doubted == t.doubted)

-- How long trouble lasts that is met at this moment, at least: as long as before while it goes on; twice as long, up to so
-- often, where it comes again within as long a time behind its end as it lasted; and so long otherwise.
abbrev pub lasts_after : Trouble → (now : ℕ) → ℕ
lasts_after t now =
    if nat_lt now t.until then t.lasts
    else if nat_lt (now - t.until) t.lasts
    then min (min (t.lasts * 2) (2 ^ 64 - 1)) (TROUBLE_MILLIS * 2 ^ MOST_DOUBLINGS)
    else TROUBLE_MILLIS

-- until when there is trouble, with what is seen at this moment: so long behind the last that was met
abbrev pub until_after : Trouble → (now view doubted : ℕ) → ℕ
until_after t now view doubted =
    if met t view doubted then min (now + lasts_after t now) (2 ^ 64 - 1) else t.until

-- what was seen so far, with this
abbrev pub seen : Trouble → (now view doubted : ℕ) → Trouble
seen t now view doubted = record {
  view = view;
  doubted = doubted;
  until = until_after t now view doubted;
  lasts = if met t view doubted then lasts_after t now else t.lasts;
}
