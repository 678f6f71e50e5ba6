-- Who holds which keys, and the key file of each holder.
use Rattle.std.specs.Prelude.{◌≡◌, ℕ, ◌+◌, ◌==◌, ◌&&◌, ◌||◌, Bool, true, List, filter, nat_le, nat_lt, if◌then◌else◌}
use Rattle.std.specs.List.{flat_map}
use Rattle.ids.specs.Sizes.{Sizes, client_party}
use Rattle.ids.specs.declared.fault.Fault.{Fault}
use Rattle.ids.specs.declared.fault.Fault.TheVariants.{Memory, NoSuchParty, NotMine}
use Rattle.definitions.specs.Bytes.{Bytes}
use Rattle.definitions.specs.Keyrings.{is_party_of}
use Rattle.key_file.specs.declared.holder.Holder.{Holder}
use Rattle.key_file.specs.declared.holder.Holder.TheVariants.{Everyone, Replica, Clients}
use Rattle.key_file.specs.declared.pair_key.PairKey.{PairKey}
use Rattle.key_file.specs.KeyFile.{AllKeys, AreOf, line_of, pairs}

-- the holder is, or has, this party
abbrev pub acts_for : Holder → ℕ → Bool
acts_for Everyone party = true
acts_for (Replica replica) party = party == replica
acts_for (Clients first count) party =
    nat_le (client_party first) party && nat_lt party (client_party first + count)

-- a holder has the key of two parties where it acts for one of them
abbrev pub has_pair : Holder → ℕ × ℕ → Bool
has_pair holder p = acts_for holder p.0 || acts_for holder p.1

-- the pairs of a holder, in the order of their lines
abbrev pub pairs_held : Holder → Sizes → List (ℕ × ℕ)
pairs_held holder sizes = filter (has_pair holder) (pairs sizes)

-- the text is the holder's key file of these keys
abbrev pub IsFileFor : Holder → Sizes → List PairKey → Bytes → Type 0
IsFileFor holder sizes keys text = AreOf (pairs_held holder sizes) keys × (text ≡ flat_map line_of keys)

-- a holder, and its keys
pub record Held : Type 0 where
  pub holder : Holder
  pub all : AllKeys

-- why a holder gets no keyring of a party: there is none such, or it is another's; or else memory was refused
abbrev pub keyring_refusal : Held → ℕ → Fault
keyring_refusal held party =
    if is_party_of held.all.sizes party then (if acts_for held.holder party then Memory else NotMine)
    else NoSuchParty
