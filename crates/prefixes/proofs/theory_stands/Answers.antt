use Rattle.prefixes.proofs.Verdict.{check_is_right, one_verdict, walk_is_right, begins_is_prefix, room_is_entries}
use Rattle.prefixes.proofs.theory_stands.Goals as goal

pub returns-clause-check_is_right : goal.returns-clause-check_is_right
returns-clause-check_is_right c = check_is_right

pub returns-clause-one_verdict : goal.returns-clause-one_verdict
returns-clause-one_verdict c = one_verdict

pub returns-clause-walk_is_right : goal.returns-clause-walk_is_right
returns-clause-walk_is_right c = walk_is_right

pub returns-clause-begins_is_prefix : goal.returns-clause-begins_is_prefix
returns-clause-begins_is_prefix c = begins_is_prefix

pub returns-clause-room_is_entries : goal.returns-clause-room_is_entries
returns-clause-room_is_entries c = room_is_entries
