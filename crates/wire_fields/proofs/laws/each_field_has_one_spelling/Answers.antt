use Rattle.wire_fields.proofs.Fields.{u8_law, kind_law, u16_law, u32_law, u64_law, key_law, fence_law, value_law, before_law, vector_law}
use Rattle.wire_fields.proofs.laws.each_field_has_one_spelling.Goals as goal

pub returns-clause-byte : goal.returns-clause-byte
returns-clause-byte c = u8_law

pub returns-clause-kind : goal.returns-clause-kind
returns-clause-kind c = kind_law

pub returns-clause-two : goal.returns-clause-two
returns-clause-two c = u16_law

pub returns-clause-four : goal.returns-clause-four
returns-clause-four c = u32_law

pub returns-clause-eight : goal.returns-clause-eight
returns-clause-eight c = u64_law

pub returns-clause-key : goal.returns-clause-key
returns-clause-key c = key_law

pub returns-clause-fence : goal.returns-clause-fence
returns-clause-fence c = fence_law

pub returns-clause-value : goal.returns-clause-value
returns-clause-value c = value_law

pub returns-clause-before : goal.returns-clause-before
returns-clause-before c = before_law

pub returns-clause-vector : goal.returns-clause-vector
returns-clause-vector c = vector_law
