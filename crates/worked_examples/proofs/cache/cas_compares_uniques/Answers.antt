-- The definitions compute, with the laws of finite maps.
use Rattle.std.specs.FinMap.{gets as map_laws}
use Rattle.std.specs.Prelude.{ℕ, List, [], ◌∷◌, true, codes}
use Rattle.std.specs.Fmt.{digits}
use Rattle.definitions.specs.Bytes.{Bytes}
use Rattle.definitions.specs.Requests.{set, store, cas, gets, incr}
use Rattle.definitions.specs.Replies.{Value}
use Rattle.definitions.specs.Replies as reply
use Rattle.definitions.specs.Cache.{Cache, empty_cache}
use Rattle.worked_examples.proofs.Exchanges.{Exchange, replies-are, holding, given}
use Rattle.worked_examples.proofs.cache.cas_compares_uniques.Goals as goal

-- what stands under the key
abbrev k : Bytes → ℕ → Value
k stored cas_unique = record { key = codes "k"; flags = 7; stored = stored; cas_unique = cas_unique }

abbrev eight : Value
eight = k (codes "8") 2

abbrev nine : Value
nine = k (codes "9") 3

abbrev after_set : Cache
after_set = given (empty_cache 65536) (k (codes "5") 1)

abbrev after_incr : Cache
after_incr = given after_set eight

abbrev after_gets : Cache
after_gets = holding after_incr eight

abbrev after_cas : Cache
after_cas = given after_gets nine

abbrev last : Cache
last = holding after_cas nine

abbrev exchanges : List Exchange
exchanges =
    (store set (codes "k") 7 (codes "5"), (after_set, reply.stored))
    ∷ (incr (codes "k") 3, (after_incr, reply.number 8))
    ∷ (gets (codes "k" ∷ []), (after_gets, reply.values (eight ∷ []) true))
    ∷ (cas (codes "k") 7 (codes "9") 1, (after_gets, reply.exists))
    ∷ (cas (codes "k") 7 (codes "9") 2, (after_cas, reply.stored))
    ∷ (gets (codes "k" ∷ []), (last, reply.values (nine ∷ []) true))
    ∷ (cas (codes "m") 0 (codes "9") 1, (last, reply.not_found))
    ∷ []

pub returns : goal.returns
unfolding digits
returns c = replies-are (empty_cache 65536) exchanges
    (simp map_laws)
    (simp map_laws)
    (simp map_laws)
    (simp map_laws)
    (simp map_laws)
    (simp map_laws)
    (simp map_laws)
