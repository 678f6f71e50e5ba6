-- A handshake over a connection, at the end that dials.
use Rattle.std.specs.Prelude.{◌≡◌, ℕ, ◌++◌, Option, Ok}
use Rattle.std.specs.Io.KnownBytes.{Appends, Consumes}
use Rattle.definitions.specs.Bytes.{Bytes}
use Rattle.handshake.specs.Texts.{ask_bytes}
use Rattle.handshake.specs.Judging.{Endpoint, Dialling, Peer, dialled, heard}

-- The other end greeted, was asked with this nonce, and its answer names this peer. Nothing else was read or written.
pub record Meets (e : Endpoint) (acceptor : ℕ) (nonce : Bytes) (source rest old new : Option Bytes) (peer : Peer)
    : Type 0 where
  pub greeting : Bytes
  pub answer : Bytes
  pub dialling : Dialling
  pub consumed : Consumes source rest (greeting ++ answer)
  pub dialled_so : dialled e acceptor greeting nonce ≡ Ok dialling
  pub asked : Appends old new (ask_bytes dialling.key dialling.greeted dialling.ask)
  pub heard_so : heard dialling answer ≡ Ok peer
