-- The definitions compute, with the laws of finite maps.
use Rattle.std.specs.FinMap.{gets as map_laws}
use Rattle.std.specs.Prelude.{List, [], ◌∷◌, false, codes}
use Rattle.std.specs.Fmt.{digits}
use Rattle.definitions.specs.Requests.{set, add, replace, append, prepend, store, get}
use Rattle.definitions.specs.Replies.{Value}
use Rattle.definitions.specs.Replies as reply
use Rattle.definitions.specs.Cache.{Cache, empty_cache}
use Rattle.worked_examples.proofs.Exchanges.{Exchange, replies-are, holding, given}
use Rattle.worked_examples.proofs.cache.some_commands_want_a_key_present_or_absent.Goals as goal

abbrev k : Value
k = record { key = codes "k"; flags = 0; stored = codes "z"; cas_unique = 1 }

abbrev after_set : Cache
after_set = given (empty_cache 65536) k

abbrev exchanges : List Exchange
exchanges =
    (store set (codes "k") 0 (codes "z"), (after_set, reply.stored))
    ∷ (store add (codes "k") 0 (codes "y"), (after_set, reply.not_stored))
    ∷ (store replace (codes "m") 0 [], (after_set, reply.not_stored))
    ∷ (store append (codes "m") 0 [], (after_set, reply.not_stored))
    ∷ (store prepend (codes "m") 0 [], (after_set, reply.not_stored))
    ∷ (get (codes "k" ∷ []), (holding after_set k, reply.values (k ∷ []) false))
    ∷ []

pub returns : goal.returns
unfolding digits
returns c = replies-are (empty_cache 65536) exchanges
    (simp map_laws)
    (simp map_laws)
    (simp map_laws)
    (simp map_laws)
    (simp map_laws)
    (simp map_laws)
