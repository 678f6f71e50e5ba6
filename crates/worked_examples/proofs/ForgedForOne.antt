-- Why the made-up vote is forged.
use Rattle.std.proofs.Common.{◌≡◌, true, [], ◌∷◌, filter, refl, inl}
use Rattle.definitions.specs.Checks.{vote_verifies}
use Rattle.definitions.specs.Digests.{digest_of}
use Rattle.definitions.specs.Premises.{WasSent, vote_claim}
use Rattle.definitions.specs.Worlds.{new_world, self_of}
use Rattle.definitions.proofs.Lists.{Among-kept, Among-mapped}
use Rattle.recovery.specs.Inventions.{tags_within}
use Rattle.worked_examples.specs.ForgedForOne.{made_up, IsRefused, IsForgedForOne}
use Rattle.worked_examples.specs.Liar.{start}
use Rattle.worked_examples.specs.Runs.{block1}
use Rattle.worked_examples.proofs.Computed.{of_steps}

pub is_refused : IsRefused
unfolding of_steps
is_refused = refl

verifies : vote_verifies (self_of start 2) (digest_of block1) made_up ≡ true
unfolding of_steps
verifies = refl

pub is_forged : IsForgedForOne
unfolding new_world tags_within
is_forged h =
    let sent : WasSent start.sent (vote_claim (self_of start 2) (digest_of block1) made_up) =
    h 2 refl (vote_claim (self_of start 2) (digest_of block1) made_up)
    (Among-mapped (vote_claim (self_of start 2) (digest_of block1))
    (filter (vote_verifies (self_of start 2) (digest_of block1)) (made_up ∷ [])) made_up
    (Among-kept (vote_verifies (self_of start 2) (digest_of block1)) (made_up ∷ []) made_up (inl refl) verifies)) refl in
    sent.1
