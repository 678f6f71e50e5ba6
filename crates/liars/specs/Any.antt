-- Lies that are drawn.
use Rattle.std.specs.Prelude.{ℕ, ◌+◌, ◌-◌, ◌*◌, ◌/◌, ◌%◌, ◌^◌, ◌==◌, ◌++◌, List, [], ◌∷◌, Bool, true, false, length}
use Rattle.std.specs.Prelude.{take, drop, replicate, Option, Some, option_to_list, unwrap_or, if◌then◌else◌}
use Rattle.std.specs.Prelude.{map}
use Rattle.std.specs.List.{range_with_len}
use Rattle.ids.specs.declared.kind.Kind.{Kind}
use Rattle.ids.specs.declared.kind.Kind.TheVariants as kind
use Rattle.ids.specs.Sizes.{Sizes, replicas}
use Rattle.definitions.specs.Bytes.{Bytes}
use Rattle.definitions.specs.Tags.{tag_len, tag_of}
use Rattle.signed_frames.specs.Outs.{SentBytes}
use Rattle.liars.specs.declared.any.Manner.{Manner}
use Rattle.liars.specs.declared.any.Manner.TheVariants.{Whole, Half, Spoilt, Late, Silent}
use Rattle.liars.specs.declared.any.TheConstants.{MANNERS}
use Rattle.liars.specs.Lies.{lone, replica_in}

-- the next word that is drawn (D. E. Knuth's generator for MMIX, The Art of Computer Programming, volume 2, 3.3.4)
abbrev pub next_word : ℕ → ℕ
next_word word = (word * 6364136223846793005 + 1442695040888963407) % 2 ^ 64

-- its upper half, which is used
abbrev pub upper : ℕ → ℕ
upper word = word / 2 ^ 32

-- what is done with a frame, by a word: each as often
abbrev pub manner_of : ℕ → Manner
manner_of word =
    let number = upper word % MANNERS in
    if number == 0 then Whole
    else if number == 1 then Half
    else if number == 2 then Spoilt
    else if number == 3 then Late
    else Silent

-- for whom the tag is left: for the receiver, or of all for one that is drawn, too
abbrev pub lone_receiver : Sizes → ℕ → SentBytes → ℕ
lone_receiver sizes word sent = unwrap_or (replica_in sizes sent.0) (upper word / MANNERS % replicas sizes)

-- it has a tag for each replica, and not one alone
abbrev pub has_vector : Kind → Bool
has_vector kind.Request = true
has_vector kind.Proposal = true
has_vector kind.Vote = true
has_vector kind.NewView = true
has_vector other = false

-- how long its tags are, with which it ends
abbrev pub tags_len : Sizes → Kind → ℕ
tags_len sizes kind = if has_vector kind then tag_len * replicas sizes else tag_len

-- the bytes of a frame without these last ones, and those
abbrev pub untagged : ℕ → Bytes → Bytes
untagged len frame = take (length frame - len) frame

abbrev pub tags_in : ℕ → Bytes → Bytes
tags_in len frame = drop (length frame - len) frame

-- a frame that ends with a tag for each replica, of which this one's alone is left
abbrev pub for_one_alone : Sizes → Bytes → ℕ → Bytes
for_one_alone sizes frame r =
    let len = tag_len * replicas sizes in untagged len frame ++ lone sizes r (tag_of (tags_in len frame) r)

-- such a frame for each replica
abbrev pub for_each_alone : Sizes → Bytes → List Bytes
for_each_alone sizes frame = map (for_one_alone sizes frame) (range_with_len 0 (replicas sizes))

-- a frame of whose tags one replica's alone is left; what has one tag alone is as it was
abbrev pub half_of : Sizes → ℕ → SentBytes → SentBytes
half_of sizes word sent =
    if has_vector sent.1 then (sent.0, sent.1, for_one_alone sizes sent.2 (lone_receiver sizes word sent))
    else sent

-- a frame with zero bytes for tags
abbrev pub spoilt_of : Sizes → SentBytes → SentBytes
spoilt_of sizes sent =
    let len = tags_len sizes sent.1 in (sent.0, sent.1, untagged len sent.2 ++ replicate len 0)

-- the last word that was drawn, and a frame that was put by
abbrev pub Whims : Type 0
Whims = ℕ × Option SentBytes

-- what is put by then, and what goes out
abbrev pub told_in : Manner → Sizes → ℕ → Option SentBytes → SentBytes → Option SentBytes × List SentBytes
told_in Whole sizes word by sent = (by, sent ∷ [])
told_in Half sizes word by sent = (by, half_of sizes word sent ∷ [])
told_in Spoilt sizes word by sent = (by, spoilt_of sizes sent ∷ [])
told_in Late sizes word by sent = (Some sent, option_to_list by)
told_in Silent sizes word by sent = (by, [])

-- what a liar by draws does with a frame
abbrev pub any_step : Sizes → Whims → SentBytes → Whims × List SentBytes
any_step sizes whims sent =
    let word = next_word whims.0 in
    let told = told_in (manner_of word) sizes word whims.1 sent in ((word, told.0), told.1)
