-- `truth_at` reads what the record of the node has: the index leads to it, and its kind, of the kinds of truths, tells which fields those are.
use native.Mathlib.Omega.{arith}
use mathlib.Core.Path.{◌≡◌, refl}
use Rattle.bytes_le.proofs.Numbers.{slice_bytes}
use Rattle.awhile.specs.Lists.{sum}
use Rattle.awhile.specs.Nodes.{form, field_size, size_of, node_of}
use Rattle.reader.proofs.Stored.{head, held, last}
use Rattle.reader.proofs.lookup.truth_at.Goals as goal

pub field-requires : goal.field-requires
unfolding node_of size_of form sum field_size
field-requires c = rw c.from-at.ensures (head (slice_bytes _ c.type_inv.table) c.requires)

pub field-requires-in-32 : goal.field-requires-in-32
unfolding node_of size_of form sum field_size
field-requires-in-32 c = omega (arith, c.from-at.ensures, (held (slice_bytes _ c.type_inv.table) c.requires (rw c.from-at.ensures at c.field.ensures) _ c.in-32.is _ refl).whole)

pub field-requires-in-33 : goal.field-requires-in-33
unfolding node_of size_of form sum field_size
field-requires-in-33 c = omega (arith, c.from-at.ensures, (held (slice_bytes _ c.type_inv.table) c.requires (rw c.from-at.ensures at c.field.ensures) _ c.in-33.is _ refl).whole)

pub field-requires-in-33-2 : goal.field-requires-in-33-2
unfolding node_of size_of form sum field_size
field-requires-in-33-2 c = omega (arith, c.from-at.ensures, (held (slice_bytes _ c.type_inv.table) c.requires (rw c.from-at.ensures at c.field.ensures) _ c.in-33.is _ refl).whole)

pub field-requires-in-34 : goal.field-requires-in-34
unfolding node_of size_of form sum field_size
field-requires-in-34 c = omega (arith, c.from-at.ensures, (held (slice_bytes _ c.type_inv.table) c.requires (rw c.from-at.ensures at c.field.ensures) _ c.in-34.is _ refl).whole)

pub field-requires-in-34-2 : goal.field-requires-in-34-2
unfolding node_of size_of form sum field_size
field-requires-in-34-2 c = omega (arith, c.from-at.ensures, (held (slice_bytes _ c.type_inv.table) c.requires (rw c.from-at.ensures at c.field.ensures) _ c.in-34.is _ refl).whole)

pub field-requires-in-35 : goal.field-requires-in-35
unfolding node_of size_of form sum field_size
field-requires-in-35 c = omega (arith, c.from-at.ensures, (held (slice_bytes _ c.type_inv.table) c.requires (rw c.from-at.ensures at c.field.ensures) _ c.in-35.is _ refl).whole)

pub field-requires-in_default : goal.field-requires-in_default
unfolding node_of size_of form sum field_size
field-requires-in_default c =
    let is_last : c.field.result ≡ 36 = last (slice_bytes _ c.type_inv.table) c.requires (rw c.from-at.ensures at c.field.ensures) c.in_default.in_default-own.rest in
    omega (arith, c.from-at.ensures, (held (slice_bytes _ c.type_inv.table) c.requires (rw c.from-at.ensures at c.field.ensures) _ is_last _ refl).whole)

pub field-requires-in_default-2 : goal.field-requires-in_default-2
unfolding node_of size_of form sum field_size
field-requires-in_default-2 c =
    let is_last : c.field.result ≡ 36 = last (slice_bytes _ c.type_inv.table) c.requires (rw c.from-at.ensures at c.field.ensures) c.in_default.in_default-own.rest in
    omega (arith, c.from-at.ensures, (held (slice_bytes _ c.type_inv.table) c.requires (rw c.from-at.ensures at c.field.ensures) _ is_last _ refl).whole)

pub returns-in-32 : goal.returns-in-32
unfolding node_of size_of form sum field_size
returns-in-32 c = rw (c.field-in-32.ensures, c.from-at.ensures) (held (slice_bytes _ c.type_inv.table) c.requires (rw c.from-at.ensures at c.field.ensures) _ c.in-32.is _ refl).is_node

pub returns-in-33 : goal.returns-in-33
unfolding node_of size_of form sum field_size
returns-in-33 c = rw (c.field-in-33.ensures, c.field-in-33-2.ensures, c.from-at.ensures) (held (slice_bytes _ c.type_inv.table) c.requires (rw c.from-at.ensures at c.field.ensures) _ c.in-33.is _ refl).is_node

pub returns-in-34 : goal.returns-in-34
unfolding node_of size_of form sum field_size
returns-in-34 c = rw (c.field-in-34.ensures, c.field-in-34-2.ensures, c.from-at.ensures) (held (slice_bytes _ c.type_inv.table) c.requires (rw c.from-at.ensures at c.field.ensures) _ c.in-34.is _ refl).is_node

pub returns-in-35 : goal.returns-in-35
unfolding node_of size_of form sum field_size
returns-in-35 c = rw (c.field-in-35.ensures, c.from-at.ensures) (held (slice_bytes _ c.type_inv.table) c.requires (rw c.from-at.ensures at c.field.ensures) _ c.in-35.is _ refl).is_node

pub returns-in_default : goal.returns-in_default
unfolding node_of size_of form sum field_size
returns-in_default c =
    let is_last : c.field.result ≡ 36 = last (slice_bytes _ c.type_inv.table) c.requires (rw c.from-at.ensures at c.field.ensures) c.in_default.in_default-own.rest in
    rw (c.field-in_default.ensures, c.field-in_default-2.ensures, c.from-at.ensures) (held (slice_bytes _ c.type_inv.table) c.requires (rw c.from-at.ensures at c.field.ensures) _ is_last _ refl).is_node
