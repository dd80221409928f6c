use Rattle.laws.proofs.Bytes.{encoded_is_bytes, inside_is_shorter}
use Rattle.laws.proofs.Characters.{utf8_by_characters}
use Rattle.laws.proofs.Decoded.{decoded_is_encoded, takes_no_more}
use Rattle.laws.proofs.Encoded.{encoded_is_decoded}
use Rattle.laws.proofs.Keys.{maps_by_values, keys_in_order}
use Rattle.laws.proofs.Limits.{at_the_limits}
use Rattle.laws.proofs.Once.{one_way, same_bytes}
use Rattle.laws.proofs.theory_stands.Goals as goal

pub returns-clause-encoded_is_decoded : goal.returns-clause-encoded_is_decoded
returns-clause-encoded_is_decoded c = encoded_is_decoded

pub returns-clause-decoded_is_encoded : goal.returns-clause-decoded_is_encoded
returns-clause-decoded_is_encoded c = decoded_is_encoded

pub returns-clause-takes_no_more : goal.returns-clause-takes_no_more
returns-clause-takes_no_more c = takes_no_more

pub returns-clause-one_way : goal.returns-clause-one_way
returns-clause-one_way c = one_way

pub returns-clause-same_bytes : goal.returns-clause-same_bytes
returns-clause-same_bytes c = same_bytes

pub returns-clause-maps_by_values : goal.returns-clause-maps_by_values
returns-clause-maps_by_values c = maps_by_values

pub returns-clause-keys_in_order : goal.returns-clause-keys_in_order
returns-clause-keys_in_order c = keys_in_order

pub returns-clause-encoded_is_bytes : goal.returns-clause-encoded_is_bytes
returns-clause-encoded_is_bytes c = encoded_is_bytes

pub returns-clause-inside_is_shorter : goal.returns-clause-inside_is_shorter
returns-clause-inside_is_shorter c = inside_is_shorter

pub returns-clause-utf8_by_characters : goal.returns-clause-utf8_by_characters
returns-clause-utf8_by_characters c = utf8_by_characters

pub returns-clause-at_the_limits : goal.returns-clause-at_the_limits
returns-clause-at_the_limits c = at_the_limits
