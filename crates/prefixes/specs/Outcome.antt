-- What `scan_prefix` answers and leaves: the model's answer, told in the call's own types.
use Rattle.std.proofs.Common.{Result}
use Rattle.std.specs.Prelude.{◌≡◌, length, Ok, Err}
use Rattle.lists.specs.Part.{put}
use Rattle.model.specs.Answers.{Answer, Scanned, accepted, code_of, no_refusal, prefix_answer, refused, result_code, size_of}
use Rattle.model.specs.declared.Refusal.{Refusal}
use Rattle.order.specs.Bytes.{Bytes}
use Rattle.prefixes.specs.End.{end_bytes}
use Rattle.prefixes.specs.declared.Span.{Span}

abbrev pub span_of : Scanned → Span
span_of s = record { range = s.range; end = size_of s.end }

-- refused: every byte of the output as it was
pub record Unwritten (x : Refusal) (out now_out : Bytes) (r : Result Span Refusal) : Type 0 where
  pub answer_is : r ≡ Err x
  pub code_is : result_code r ≡ code_of x
  pub out_is : now_out ≡ out

-- accepted: the end at the output's front, every byte behind it as it was
pub record Written (s : Scanned) (out now_out : Bytes) (r : Result Span Refusal) : Type 0 where
  pub answer_is : r ≡ Ok (span_of s)
  pub code_is : result_code r ≡ no_refusal
  pub out_is : now_out ≡ put out 0 (end_bytes s.end)

-- by the model's answer
abbrev pub PrefixBy : Answer Scanned → (out now_out : Bytes) → Result Span Refusal → Type 0
PrefixBy (refused x) out now_out r = Unwritten x out now_out r
PrefixBy (accepted s) out now_out r = Written s out now_out r

abbrev pub PrefixOutcome : (p out now_out : Bytes) → Result Span Refusal → Type 0
PrefixOutcome p out now_out r = PrefixBy (prefix_answer p (length out)) out now_out r
