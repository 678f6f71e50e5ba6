-- The definitions compute, with the laws of finite maps.
use Rattle.std.specs.FinMap.{gets as map_laws, entries-insert}
use Rattle.std.specs.Prelude.{ℕ, List, [], ◌∷◌, true, false, codes}
use Rattle.std.specs.Fmt.{digits}
use Rattle.definitions.specs.Bytes.{Bytes}
use Rattle.definitions.specs.Requests.{get, gets}
use Rattle.definitions.specs.Replies.{Value}
use Rattle.definitions.specs.Replies as reply
use Rattle.definitions.specs.Cache.{Cache, empty_cache}
use Rattle.worked_examples.specs.Cache.{stored_at, added_at}
use Rattle.worked_examples.proofs.Exchanges.{Exchange, replies-are, holding, given, without}
use Rattle.worked_examples.proofs.Maps.{entries-empty, entries-remove}
use Rattle.worked_examples.proofs.cache.a_full_cache_evicts.Goals as goal

abbrev x : Bytes → ℕ → Value
x key cas_unique = record { key = key; flags = 0; stored = codes "x"; cas_unique = cas_unique }

abbrev a : Value
a = x (codes "a") 1

abbrev b : Value
b = x (codes "b") 2

abbrev c : Value
c = x (codes "c") 3

abbrev d : Value
d = x (codes "d") 4

abbrev e : Value
e = x (codes "e") 5

abbrev with_a : Cache
with_a = given (empty_cache 2) a

abbrev with_b : Cache
with_b = given with_a b

abbrev a_was_got : Cache
a_was_got = holding with_b a

abbrev c_for_b : Cache
c_for_b = given (without a_was_got (codes "b")) c

abbrev c_was_got : Cache
c_was_got = holding (holding c_for_b a) c

abbrev d_for_a : Cache
d_for_a = given (without c_was_got (codes "a")) d

abbrev d_was_got : Cache
d_was_got = holding (holding d_for_a c) d

abbrev e_for_c : Cache
e_for_c = given (without d_was_got (codes "c")) e

abbrev exchanges : List Exchange
exchanges =
    (stored_at (codes "a"), (with_a, reply.stored))
    ∷ (stored_at (codes "b"), (with_b, reply.stored))
    ∷ (get (codes "a" ∷ []), (a_was_got, reply.values (a ∷ []) false))
    ∷ (stored_at (codes "c"), (c_for_b, reply.stored))
    ∷ (get (codes "a" ∷ codes "b" ∷ codes "c" ∷ []), (c_was_got, reply.values (a ∷ c ∷ []) false))
    ∷ (added_at (codes "d"), (d_for_a, reply.stored))
    ∷ (gets (codes "c" ∷ codes "d" ∷ []), (d_was_got, reply.values (c ∷ d ∷ []) true))
    ∷ (added_at (codes "c"), (d_was_got, reply.not_stored))
    ∷ (stored_at (codes "e"), (e_for_c, reply.stored))
    ∷ (get (codes "c" ∷ []), (e_for_c, reply.values [] false))
    ∷ []

pub returns : goal.returns
unfolding digits
returns _ = replies-are (empty_cache 2) exchanges
    (simp map_laws)
    (simp map_laws)
    (simp map_laws)
    (simp (map_laws, entries-empty, entries-insert))
    (simp map_laws)
    (simp (map_laws, entries-empty, entries-insert, entries-remove))
    (simp map_laws)
    (simp map_laws)
    (simp (map_laws, entries-empty, entries-insert, entries-remove))
    (simp map_laws)
