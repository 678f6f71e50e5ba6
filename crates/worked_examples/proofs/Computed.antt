-- What a proof unfolds to compute a run, or a part of one, by `refl`.
use Rattle.std.specs.Prelude.{⊤}
use Rattle.std.specs.Fmt.{digits}
use Rattle.sha2.specs.Sha256.{sha256, digest_bytes, hash_after, compress, rounds, schedule, first_words}
use Rattle.definitions.specs.Lists.{beginning, greatest, count_below}
use Rattle.definitions.specs.Tags.{hmac}
use Rattle.definitions.specs.Keyrings.{tag_for, verify, tags_for}
use Rattle.definitions.specs.Branches.{justify_height, just1, just2, just3, command_eq, block_eq, branch_eq}
use Rattle.definitions.specs.Branches.{extends, highest}
use Rattle.definitions.specs.Digests.{digest, core_over, digest_of, core_of}
use Rattle.definitions.specs.Canonical.{request_of}
use Rattle.definitions.specs.Cache.{apply_payload}
use Rattle.definitions.specs.Histories.{history_of, answers, last_seq, is_fresh, cache_after}
use Rattle.definitions.specs.Chronicles.{voted_blocks, taken_blocks, tree, vheight, lock, decides}
use Rattle.definitions.specs.Chronicles.{decided_by, decided}
use Rattle.definitions.specs.Chronicles.{executed, history, stored_blocks, horizon, standing_blocks}
use Rattle.definitions.specs.Chronicles.{window, is_safe}
use Rattle.definitions.specs.Checks.{counted_voters, is_good, cut, is_clear_core}
use Rattle.definitions.specs.States.{find_block, view, announcements, announced, reached_view, votes, raised}
use Rattle.definitions.specs.States.{qc_high, is_due, pending, leads, is_known, picks, child, leaf}
use Rattle.definitions.specs.States.{proposed, insert_vote, by_voter}
use Rattle.definitions.specs.Trees.{is_clear, clear_above, placing_known, placing_new, placing}
use Rattle.definitions.specs.Rulings.{admitted, votes_for, on_placing, ruling, conflicts, on_request}
use Rattle.definitions.specs.Rulings.{on_offer, on_relay}
use Rattle.definitions.specs.Grounds.{are_distinct, are_replicas, is_justified, own_counted}
use Rattle.definitions.specs.Grounds.{is_own_certified, grounded, may_lead_from}
use Rattle.definitions.specs.Sendings.{vote_frame, proposal_frame, new_replies, reply_to, sendings}
use Rattle.definitions.specs.Sendings.{block_frame, fetch_frame}
use Rattle.definitions.specs.Replicas.{on_step, on_ruling, step}
use Rattle.definitions.specs.Sessions.{request_frame, submission, on_reply, count_reply}
use Rattle.definitions.specs.Admission.{check, check_offer, is_copy, check_copies, check_gathered}
use Rattle.definitions.specs.Worlds.{new_world}
use Rattle.definitions.specs.Events.{nothing, stepped, comes, party_of, brought, acts, effect, happens}
use Rattle.definitions.specs.Events.{submitted, told, offers}
use Rattle.definitions.specs.Runs.{refusal, run, after}
use Rattle.definitions.specs.Premises.{accepted_tags}

-- the definitions of a run, down to SHA-256, but for replies
unfoldable pub of_steps : ⊤
unfolding sha256 digest_bytes hash_after compress rounds schedule first_words beginning greatest count_below
    hmac tag_for verify tags_for justify_height just1 just2 just3 command_eq block_eq branch_eq extends
    highest digest core_over digest_of core_of history_of is_fresh answers last_seq voted_blocks taken_blocks
    tree vheight lock decides decided_by decided executed history stored_blocks horizon standing_blocks window
    is_clear clear_above is_safe counted_voters is_good cut is_clear_core view announcements announced
    reached_view votes raised qc_high is_due pending leads is_known picks child leaf proposed find_block
    insert_vote by_voter admitted votes_for placing_known placing_new placing on_placing on_request ruling
    conflicts vote_frame proposal_frame new_replies sendings on_step on_ruling step check request_frame
    submission on_reply count_reply new_world nothing stepped submitted told comes party_of brought acts
    effect happens refusal run after accepted_tags on_offer on_relay are_distinct are_replicas is_justified
    own_counted is_own_certified grounded may_lead_from check_offer is_copy check_copies check_gathered offers
    block_frame fetch_frame
of_steps = tt

-- with what the cache replies, and the frame of a reply
unfoldable pub of_runs : ⊤
unfolding of_steps digits request_of apply_payload cache_after reply_to
of_runs = tt
