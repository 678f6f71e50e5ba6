-- Answers that come behind others change nothing that was told.
use Rattle.std.proofs.Common.{◌≡◌, ◌∙◌, ◌<◌, ◌==◌, ◌&&◌, ◌||◌, ℕ, zero, suc, List, [], ◌∷◌, ◌++◌}
use Rattle.std.proofs.Common.{Bool, true, Some, length, get_or, refl, ap, sym, subst}
use Rattle.std.proofs.Common.{arith}
use Rattle.std.specs.Prelude.{filter}
use Rattle.std.specs.List.{list_any, position}
use Rattle.std.specs.Str.{bytes_eq}
use Rattle.std.proofs.lemmas.Bool.{eqb-true, and_parts}
use Rattle.std.proofs.lemmas.List.{get_or-map, get_or_append_left, length-append}
use Rattle.std.proofs.lemmas.List.Quantifiers.{position-Some}
use Rattle.std.proofs.lemmas.Slice.Eq.{bytes_eq-Decides}
use Rattle.definitions.specs.Bytes.{Bytes}
use Rattle.definitions.specs.Tally.{Told, is_counted, agrees, agreeing}
use Rattle.client_accept.specs.declared.answers.Answer.{Answer}
use Rattle.client_accept.specs.declared.tally.Counted.{Counted}
use Rattle.client_accept.specs.Tallies.{Said, said_in, said_at, told_in, tally_of, AreAmong, IsSaidAt}
use Rattle.client_accept.specs.Tallies.{IsLonger}

-- what the answer at a place says
pub said-is : (answers : List Answer) (i : ℕ) (d : Answer) → i < length answers
    → said_at answers i ≡ said_in (get_or answers i d)
said-is answers i d below = get_or-map said_in answers i d (0, []) below

-- an answer keeps its number
pub said-longer : (answers more : List Answer) (i : ℕ) → i < length answers
    → said_at (answers ++ more) i ≡ said_at answers i
said-longer [] more i below = absurd (omega (arith, below))
said-longer (a ∷ answers) more i below =
    let long : i < length ((a ∷ answers) ++ more) = omega (arith, below, length-append (a ∷ answers) more) in
    said-is ((a ∷ answers) ++ more) i a long ∙ ap said_in (get_or_append_left (a ∷ answers) more a i below)
    ∙ sym (said-is (a ∷ answers) i a below)

-- so does all that was told
pub tally-longer : (answers more : List Answer) (counted : List Counted) → AreAmong answers counted
    → tally_of (answers ++ more) counted ≡ tally_of answers counted
tally-longer answers more [] among = refl
tally-longer answers more (c ∷ counted) among =
    let head : told_in (answers ++ more) c ≡ told_in answers c =
    ap (λ (s : Said). record { replica = c.replica; place = s.0; text = s.1 })
    (said-longer answers more c.answer among.0) in
    ap (λ (t : Told). t ∷ tally_of (answers ++ more) counted) head
    ∙ ap (λ (ts : List Told). told_in answers c ∷ ts) (tally-longer answers more counted among.1)

pub among-longer : (answers more : List Answer) (counted : List Counted) → AreAmong answers counted
    → AreAmong (answers ++ more) counted
among-longer answers more [] among = among
among-longer answers more (c ∷ counted) among =
    let first : c.answer < length answers = among.0 in
    (omega (arith, first, length-append answers more), among-longer answers more counted among.1)

-- the same, of answers that are longer
pub tally-kept : (old new : List Answer) (counted : List Counted) → IsLonger old new → AreAmong old counted
    → tally_of new counted ≡ tally_of old counted
tally-kept old new counted longer among =
    ap (λ (answers : List Answer). tally_of answers counted) longer.1
    ∙ tally-longer old longer.0 counted among

pub among-kept : (old new : List Answer) (counted : List Counted) → IsLonger old new → AreAmong old counted
    → AreAmong new counted
among-kept old new counted longer among =
    subst (λ (answers : List Answer). AreAmong answers counted) (sym longer.1)
    (among-longer old longer.0 counted among)

-- one more is counted
pub tally-next : (old new : List Answer) (counted : List Counted) (c : Counted) (place : ℕ) (text : Bytes)
    → IsLonger old new → AreAmong old counted → said_at new c.answer ≡ (place, text)
    → tally_of new (c ∷ counted)
    ≡ record { replica = c.replica; place = place; text = text } ∷ tally_of old counted
tally-next old new counted c place text longer among said =
    ap (λ (s : Said). record { replica = c.replica; place = s.0; text = s.1 } ∷ tally_of new counted) said
    ∙ ap (λ (ts : List Told). record { replica = c.replica; place = place; text = text } ∷ ts)
    (tally-kept old new counted longer among)

-- the same replicas
pub counted-kept : (answers : List Answer) (counted : List Counted) (replica : ℕ)
    → list_any (λ c. c.replica == replica) counted ≡ is_counted (tally_of answers counted) replica
counted-kept answers [] replica = refl
counted-kept answers (c ∷ counted) replica =
    ap (λ (b : Bool). (c.replica == replica) || b) (counted-kept answers counted replica)

-- an answer that is this place and text says so
abbrev is_said : ℕ → Bytes → Answer → Bool
is_said place text a = (a.place == place) && bytes_eq a.text.items text

said-passed : (a : Answer) (place : ℕ) (text : Bytes) → is_said place text a ≡ true
    → said_in a ≡ (place, text)
said-passed a place text e =
    let both = and_parts (a.place == place) (bytes_eq a.text.items text) e in
    ap (λ (p : ℕ). (p, a.text.items)) (eqb-true a.place place both.0)
    ∙ ap (λ (t : Bytes). (place, t)) ((bytes_eq-Decides a.text.items text).0 both.1)

pub said-found : (answers : List Answer) (i : ℕ) (place : ℕ) (text : Bytes)
    → position (λ a. (a.place == place) && bytes_eq a.text.items text) answers ≡ Some i
    → IsSaidAt answers i (place, text)
said-found [] i place text found = absurd cc
said-found (a ∷ answers) i place text found =
    let at = position-Some (is_said place text) (a ∷ answers) i a found in
    (at.0, said-is (a ∷ answers) i a at.0 ∙ said-passed (get_or (a ∷ answers) i a) place text at.1)

-- how many of what was told agree, by who was counted
pub agreeing-counted : (answers : List Answer) (counted : List Counted) (place : ℕ) (text : Bytes)
    → length (filter (λ c. agrees place text (told_in answers c)) counted)
    ≡ agreeing (tally_of answers counted) place text
agreeing-counted answers [] place text = refl
agreeing-counted answers (c ∷ counted) place text = grind (arith, agreeing-counted answers counted place text)

-- each counted replica's answer is there
pub among-at : (answers : List Answer) (counted : List Counted) (i : ℕ) (d : Counted)
    → AreAmong answers counted → i < length counted → (get_or counted i d).answer < length answers
among-at answers [] i d among below = absurd (omega (arith, below))
among-at answers (c ∷ counted) zero d among below = among.0
among-at answers (c ∷ counted) (suc i) d among below =
    among-at answers counted i d among.1 (omega (arith, below))
