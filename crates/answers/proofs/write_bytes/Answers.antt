-- `write_bytes` meets its contract.
-- Assumes nothing.
use mathlib.Core.Path.{ap, sym}
use lib.ListN.{length}
use Rattle.answers.specs.AnswerLaws.{dash_text, hex_text, wrote_is}
use native.Mathlib.Omega.{arith}
use Rattle.answers.proofs.write_bytes.Goals as goal

pub write_byte-requires : goal.write_byte-requires
write_byte-requires c = omega (arith, ap length (dash_text c.args.s.now (omega arith)), c.requires)

pub returns-in-empty : goal.returns-in-empty
returns-in-empty c = wrote_is c.write_byte.ensures (sym (dash_text _ (omega arith)))

pub write_hex-requires : goal.write_hex-requires
write_hex-requires c = omega (arith, ap length (hex_text c.args.s.now (omega arith)), c.requires)

pub returns-in_default : goal.returns-in_default
returns-in_default c = wrote_is c.write_hex.ensures (hex_text _ (omega arith))
