-- `numeric_at` reads what the record of the node has: the index leads to it, and its kind, of the kinds of numbers, tells which fields those are.
use native.Mathlib.Omega.{arith}
use mathlib.Core.Path.{◌≡◌, refl}
use Rattle.bytes_le.proofs.Numbers.{slice_bytes}
use Rattle.awhile.specs.Lists.{sum}
use Rattle.awhile.specs.Nodes.{form, field_size, size_of, node_of}
use Rattle.reader.proofs.Stored.{head, held, last}
use Rattle.reader.proofs.lookup.numeric_at.Goals as goal

pub field-requires : goal.field-requires
unfolding node_of size_of form sum field_size
field-requires c = rw c.from-at.ensures (head (slice_bytes _ c.type_inv.table) c.requires)

pub word-requires : goal.word-requires
unfolding node_of size_of form sum field_size
word-requires c = omega (arith, c.from-at.ensures, (held (slice_bytes _ c.type_inv.table) c.requires (rw c.from-at.ensures at c.field.ensures) _ c.in-16.is _ refl).whole)

pub field-requires-in-17 : goal.field-requires-in-17
unfolding node_of size_of form sum field_size
field-requires-in-17 c = omega (arith, c.from-at.ensures, (held (slice_bytes _ c.type_inv.table) c.requires (rw c.from-at.ensures at c.field.ensures) _ c.in-17.is _ refl).whole)

pub field-requires-in-18 : goal.field-requires-in-18
unfolding node_of size_of form sum field_size
field-requires-in-18 c = omega (arith, c.from-at.ensures, (held (slice_bytes _ c.type_inv.table) c.requires (rw c.from-at.ensures at c.field.ensures) _ c.in-18.is _ refl).whole)

pub field-requires-in-18-2 : goal.field-requires-in-18-2
unfolding node_of size_of form sum field_size
field-requires-in-18-2 c = omega (arith, c.from-at.ensures, (held (slice_bytes _ c.type_inv.table) c.requires (rw c.from-at.ensures at c.field.ensures) _ c.in-18.is _ refl).whole)

pub field-requires-in-19 : goal.field-requires-in-19
unfolding node_of size_of form sum field_size
field-requires-in-19 c = omega (arith, c.from-at.ensures, (held (slice_bytes _ c.type_inv.table) c.requires (rw c.from-at.ensures at c.field.ensures) _ c.in-19.is _ refl).whole)

pub field-requires-in-19-2 : goal.field-requires-in-19-2
unfolding node_of size_of form sum field_size
field-requires-in-19-2 c = omega (arith, c.from-at.ensures, (held (slice_bytes _ c.type_inv.table) c.requires (rw c.from-at.ensures at c.field.ensures) _ c.in-19.is _ refl).whole)

pub field-requires-in-20 : goal.field-requires-in-20
unfolding node_of size_of form sum field_size
field-requires-in-20 c = omega (arith, c.from-at.ensures, (held (slice_bytes _ c.type_inv.table) c.requires (rw c.from-at.ensures at c.field.ensures) _ c.in-20.is _ refl).whole)

pub field-requires-in-20-2 : goal.field-requires-in-20-2
unfolding node_of size_of form sum field_size
field-requires-in-20-2 c = omega (arith, c.from-at.ensures, (held (slice_bytes _ c.type_inv.table) c.requires (rw c.from-at.ensures at c.field.ensures) _ c.in-20.is _ refl).whole)

pub field-requires-in_default : goal.field-requires-in_default
unfolding node_of size_of form sum field_size
field-requires-in_default c =
    let is_last : c.field.result ≡ 21 = last (slice_bytes _ c.type_inv.table) c.requires (rw c.from-at.ensures at c.field.ensures) c.in_default.in_default-own.rest in
    omega (arith, c.from-at.ensures, (held (slice_bytes _ c.type_inv.table) c.requires (rw c.from-at.ensures at c.field.ensures) _ is_last _ refl).whole)

pub field-requires-in_default-2 : goal.field-requires-in_default-2
unfolding node_of size_of form sum field_size
field-requires-in_default-2 c =
    let is_last : c.field.result ≡ 21 = last (slice_bytes _ c.type_inv.table) c.requires (rw c.from-at.ensures at c.field.ensures) c.in_default.in_default-own.rest in
    omega (arith, c.from-at.ensures, (held (slice_bytes _ c.type_inv.table) c.requires (rw c.from-at.ensures at c.field.ensures) _ is_last _ refl).whole)

pub field-requires-in_default-3 : goal.field-requires-in_default-3
unfolding node_of size_of form sum field_size
field-requires-in_default-3 c =
    let is_last : c.field.result ≡ 21 = last (slice_bytes _ c.type_inv.table) c.requires (rw c.from-at.ensures at c.field.ensures) c.in_default.in_default-own.rest in
    omega (arith, c.from-at.ensures, (held (slice_bytes _ c.type_inv.table) c.requires (rw c.from-at.ensures at c.field.ensures) _ is_last _ refl).whole)

pub returns-in-16 : goal.returns-in-16
unfolding node_of size_of form sum field_size
returns-in-16 c = rw (c.word.ensures, c.from-at.ensures) (held (slice_bytes _ c.type_inv.table) c.requires (rw c.from-at.ensures at c.field.ensures) _ c.in-16.is _ refl).is_node

pub returns-in-17 : goal.returns-in-17
unfolding node_of size_of form sum field_size
returns-in-17 c = rw (c.field-in-17.ensures, c.from-at.ensures) (held (slice_bytes _ c.type_inv.table) c.requires (rw c.from-at.ensures at c.field.ensures) _ c.in-17.is _ refl).is_node

pub returns-in-18 : goal.returns-in-18
unfolding node_of size_of form sum field_size
returns-in-18 c = rw (c.field-in-18.ensures, c.field-in-18-2.ensures, c.from-at.ensures) (held (slice_bytes _ c.type_inv.table) c.requires (rw c.from-at.ensures at c.field.ensures) _ c.in-18.is _ refl).is_node

pub returns-in-19 : goal.returns-in-19
unfolding node_of size_of form sum field_size
returns-in-19 c = rw (c.field-in-19.ensures, c.field-in-19-2.ensures, c.from-at.ensures) (held (slice_bytes _ c.type_inv.table) c.requires (rw c.from-at.ensures at c.field.ensures) _ c.in-19.is _ refl).is_node

pub returns-in-20 : goal.returns-in-20
unfolding node_of size_of form sum field_size
returns-in-20 c = rw (c.field-in-20.ensures, c.field-in-20-2.ensures, c.from-at.ensures) (held (slice_bytes _ c.type_inv.table) c.requires (rw c.from-at.ensures at c.field.ensures) _ c.in-20.is _ refl).is_node

pub returns-in_default : goal.returns-in_default
unfolding node_of size_of form sum field_size
returns-in_default c =
    let is_last : c.field.result ≡ 21 = last (slice_bytes _ c.type_inv.table) c.requires (rw c.from-at.ensures at c.field.ensures) c.in_default.in_default-own.rest in
    rw (c.field-in_default.ensures, c.field-in_default-2.ensures, c.field-in_default-3.ensures, c.from-at.ensures)
    (held (slice_bytes _ c.type_inv.table) c.requires (rw c.from-at.ensures at c.field.ensures) _ is_last _ refl).is_node
