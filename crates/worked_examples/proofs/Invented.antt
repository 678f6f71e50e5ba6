-- Where faulty parties alone make votes and commands of their own, nothing that is invented is forged for anybody.
use Rattle.std.proofs.Common.{ℕ, ◌≡◌, Bool, true, List, [], ◌∷◌, ◌++◌, filter, sym, ap, ◌∙◌, inl}
use Rattle.std.proofs.Common.{inr}
use Rattle.std.specs.Bool.{⊤}
use Rattle.std.proofs.lemmas.Bool.{true≢false}
use Rattle.ids.specs.Sizes.{client_party}
use Rattle.definitions.specs.Checks.{vote_verifies, command_verifies}
use Rattle.definitions.specs.Events.{happens}
use Rattle.definitions.specs.Frames.{Command, Frame, Vote}
use Rattle.definitions.specs.Frames as frame
use Rattle.definitions.specs.Lists.{Among}
use Rattle.definitions.specs.Premises.{Claim, vote_claim, command_claim}
use Rattle.definitions.specs.Worlds.{World, Happening, self_of}
use Rattle.definitions.proofs.Lists.{Among-before, Among-after, Among-filter, Among-map}
use Rattle.recovery.specs.Inventions.{invented, tags_within, ForgesForNobody, NothingForgedInvented}

-- a vote or a command of a faulty party, or a reply
abbrev pub IsOfFaulty : (ℕ → Bool) → Frame → Type 0
IsOfFaulty is_faulty (frame.vote d b) = is_faulty b.voter ≡ true
IsOfFaulty is_faulty (frame.request c) = is_faulty (client_party c.client) ≡ true
IsOfFaulty is_faulty (frame.reply r c q p t g) = ⊤
IsOfFaulty is_faulty f = ⊥

-- all that these events invent
abbrev pub all_invented : List Happening → List Frame
all_invented [] = []
all_invented (h ∷ hs) = invented h.0 ++ all_invented hs

-- the one of a list
one : {A : Type 0} (x y : A) → Among x (y ∷ []) → x ≡ y
one x y (inl e) = e
one x y (inr n) = absurd n

forged-for-nobody : (w : World) (f : Frame) → IsOfFaulty w.is_faulty f → ForgesForNobody w f
unfolding tags_within
forged-for-nobody w (frame.vote d b) faulty r c x m ok =
    let y = Among-map (vote_claim (self_of w r) d) (filter (vote_verifies (self_of w r) d) (b ∷ [])) x m in
    let is = one y.0 b (Among-filter (vote_verifies (self_of w r) d) (b ∷ []) y.0 y.1).0 in
    let named = ap (λ (z : Claim). w.is_faulty z.sender) y.2 ∙ ap (λ (z : Vote). w.is_faulty z.voter) is in
    absurd (true≢false (sym (named ∙ faulty) ∙ ok))
forged-for-nobody w (frame.request k) faulty r c x m ok =
    let y = Among-map (command_claim (self_of w r)) (filter (command_verifies (self_of w r)) (k ∷ [])) x m in
    let is = one y.0 k (Among-filter (command_verifies (self_of w r)) (k ∷ []) y.0 y.1).0 in
    let named = ap (λ (z : Claim). w.is_faulty z.sender) y.2
    ∙ ap (λ (z : Command). w.is_faulty (client_party z.client)) is in
    absurd (true≢false (sym (named ∙ faulty) ∙ ok))
forged-for-nobody w (frame.reply n k q p t g) faulty r c x m ok = absurd m
forged-for-nobody w (frame.proposal v core q t) faulty r c x m ok = absurd faulty
forged-for-nobody w (frame.new_view v s q t) faulty r c x m ok = absurd faulty
forged-for-nobody w (frame.fetch s d t) faulty r c x m ok = absurd faulty
forged-for-nobody w (frame.block s core q t) faulty r c x m ok = absurd faulty

pub of-faulty : (hs : List Happening) (w : World)
    → ((f : Frame) → Among f (all_invented hs) → IsOfFaulty w.is_faulty f) → NothingForgedInvented w hs
unfolding happens
of-faulty [] w h = tt
of-faulty (x ∷ hs) w h = (
  λ f m. forged-for-nobody w f (h f (Among-before f (invented x.0) (all_invented hs) m)),
  of-faulty hs (happens w x) (λ f m. h f (Among-after f (invented x.0) (all_invented hs) m)),
)
