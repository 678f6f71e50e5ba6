-- What frames that are offered, and copies that come together, are as inputs.
use Rattle.ids.specs.declared.fault.Fault.TheVariants as fault
use Rattle.std.proofs.Common.{ℕ, ◌≡◌, true, List, [], ◌∷◌, map, subst, Some, None}
use Rattle.std.specs.List.{list_all}
use Rattle.std.proofs.lemmas.Bool.{and_parts}
use Rattle.definitions.proofs.Checks.{when-good}
use Rattle.definitions.specs.Bytes.{Bytes}
use Rattle.definitions.specs.Frames.{Core, Certificate, Frame, sender_of}
use Rattle.definitions.specs.Frames as frame
use Rattle.ids.specs.Sizes.{leader}
use Rattle.definitions.specs.Checks.{Identity, findings}
use Rattle.definitions.specs.Rulings.{Input, Input.offered_in, Input.relayed_in, Input.view_in}
use Rattle.definitions.specs.Admission.{check_offer, check_copies, check_gathered, is_copy}
use Rattle.definitions.specs.Admission.{Checked.passes, Checked.rejected}

-- a frame that isn't for this replica is no input, nor is what is no frame
pub not_mine : (i : Input) → rejected fault.NotMine ≡ passes i → ⊥
not_mine i e = cc

not_frame : (i : Input) → rejected fault.NotAFrame ≡ passes i → ⊥
not_frame i e = cc

-- an offer is of a proposal, a block or a view
pub data IsOffered (self : Identity) : Frame → Input → Type 0 where
  by_proposal : (view : ℕ) (core : Core) (q : Certificate) (v : Bytes)
      → IsOffered self (frame.proposal view core q v)
      (offered_in (Some view) (leader self.sizes view) core q (findings self core q))
  by_block : (sender : ℕ) (core : Core) (q : Certificate) (t : Bytes)
      → IsOffered self (frame.block sender core q t)
      (offered_in None sender core q (findings self core q))
  by_view : (view sender : ℕ) (q : Certificate) (v : Bytes)
      → IsOffered self (frame.new_view view sender q v) (view_in view sender)

pub offered : (self : Identity) (f : Frame) (i : Input) → check_offer self f ≡ passes i → IsOffered self f i
unfolding check_offer
offered self (frame.proposal view core q v) i e =
    subst (IsOffered self (frame.proposal view core q v)) (when-good _ _ _ e).1 (by_proposal view core q v)
offered self (frame.block sender core q t) i e =
    subst (IsOffered self (frame.block sender core q t)) (when-good _ _ _ e).1 (by_block sender core q t)
offered self (frame.new_view view sender q v) i e =
    subst (IsOffered self (frame.new_view view sender q v)) (when-good _ _ _ e).1 (by_view view sender q v)
offered self (frame.request c) i e = absurd (not_mine i e)
offered self (frame.vote d b) i e = absurd (not_mine i e)
offered self (frame.fetch s d t) i e = absurd (not_mine i e)
offered self (frame.reply r c s p t g) i e = absurd (not_mine i e)

-- what comes together is a block, and copies of it
pub data IsGathered (self : Identity) : List Frame → Input → Type 0 where
  copies : (sender : ℕ) (core : Core) (q : Certificate) (t : Bytes) (fs : List Frame)
      → list_all (is_copy self core q) (frame.block sender core q t ∷ fs) ≡ true
      → IsGathered self (frame.block sender core q t ∷ fs)
      (relayed_in (map (sender_of self.sizes) (frame.block sender core q t ∷ fs)) core q
      (findings self core q))

pub gathered : (self : Identity) (fs : List Frame) (i : Input) → check_gathered self fs ≡ passes i
    → IsGathered self fs i
unfolding check_gathered check_copies
gathered self [] i e = absurd (not_frame i e)
gathered self (frame.block sender core q t ∷ fs) i e =
    let g = when-good _ _ _ e in
    subst (IsGathered self (frame.block sender core q t ∷ fs)) g.1
    (copies sender core q t fs (and_parts _ _ g.0).1)
gathered self (frame.proposal w c q v ∷ fs) i e = absurd (not_mine i e)
gathered self (frame.new_view w s q v ∷ fs) i e = absurd (not_mine i e)
gathered self (frame.request c ∷ fs) i e = absurd (not_mine i e)
gathered self (frame.vote d b ∷ fs) i e = absurd (not_mine i e)
gathered self (frame.fetch s d t ∷ fs) i e = absurd (not_mine i e)
gathered self (frame.reply r c s p t g ∷ fs) i e = absurd (not_mine i e)
