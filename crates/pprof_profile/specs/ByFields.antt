-- A draft by the whole list of its fields (Protocol Buffers encoding page, "Last One Wins", "Packed Repeated Fields"
-- and "Field Order").
use Rattle.std.specs.Prelude.{ℕ, List}
use Rattle.pprof_wire.specs.Fields.{PlainField, IsFieldList}
use Rattle.pprof_profile.specs.declared.messages.Draft.{Draft}
use Rattle.pprof_profile.specs.Forms.{IsMadeOf}
use Rattle.pprof_profile.specs.Messages.{draft_form}

-- The bytes are fields, and the draft is what all of them make of it.
pub record HasFieldsOf (bytes : List ℕ) (draft : Draft) : Type 0 where
  pub fields : List PlainField
  pub listed : IsFieldList bytes fields
  pub is : IsMadeOf draft_form fields draft
