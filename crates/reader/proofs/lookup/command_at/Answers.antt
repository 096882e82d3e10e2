-- `command_at` reads what the record of the node has: the index leads to it, and its kind, of the kinds of commands, tells which fields those are.
use native.Mathlib.Omega.{arith}
use mathlib.Core.Path.{◌≡◌, refl}
use Rattle.bytes_le.proofs.Numbers.{slice_bytes}
use Rattle.awhile.specs.Lists.{sum}
use Rattle.awhile.specs.Nodes.{form, field_size, size_of, node_of}
use Rattle.reader.proofs.Stored.{head, held, last}
use Rattle.reader.proofs.lookup.command_at.Goals as goal

pub field-requires : goal.field-requires
unfolding node_of size_of form sum field_size
field-requires c = rw c.from-at.ensures (head (slice_bytes _ c.type_inv.table) c.requires)

pub field-requires-in-49 : goal.field-requires-in-49
unfolding node_of size_of form sum field_size
field-requires-in-49 c = omega (arith, c.from-at.ensures, (held (slice_bytes _ c.type_inv.table) c.requires (rw c.from-at.ensures at c.field.ensures) _ c.in-49.is _ refl).whole)

pub field-requires-in-49-2 : goal.field-requires-in-49-2
unfolding node_of size_of form sum field_size
field-requires-in-49-2 c = omega (arith, c.from-at.ensures, (held (slice_bytes _ c.type_inv.table) c.requires (rw c.from-at.ensures at c.field.ensures) _ c.in-49.is _ refl).whole)

pub field-requires-in-50 : goal.field-requires-in-50
unfolding node_of size_of form sum field_size
field-requires-in-50 c = omega (arith, c.from-at.ensures, (held (slice_bytes _ c.type_inv.table) c.requires (rw c.from-at.ensures at c.field.ensures) _ c.in-50.is _ refl).whole)

pub field-requires-in-50-2 : goal.field-requires-in-50-2
unfolding node_of size_of form sum field_size
field-requires-in-50-2 c = omega (arith, c.from-at.ensures, (held (slice_bytes _ c.type_inv.table) c.requires (rw c.from-at.ensures at c.field.ensures) _ c.in-50.is _ refl).whole)

pub field-requires-in-51 : goal.field-requires-in-51
unfolding node_of size_of form sum field_size
field-requires-in-51 c = omega (arith, c.from-at.ensures, (held (slice_bytes _ c.type_inv.table) c.requires (rw c.from-at.ensures at c.field.ensures) _ c.in-51.is _ refl).whole)

pub field-requires-in-51-2 : goal.field-requires-in-51-2
unfolding node_of size_of form sum field_size
field-requires-in-51-2 c = omega (arith, c.from-at.ensures, (held (slice_bytes _ c.type_inv.table) c.requires (rw c.from-at.ensures at c.field.ensures) _ c.in-51.is _ refl).whole)

pub field-requires-in-51-3 : goal.field-requires-in-51-3
unfolding node_of size_of form sum field_size
field-requires-in-51-3 c = omega (arith, c.from-at.ensures, (held (slice_bytes _ c.type_inv.table) c.requires (rw c.from-at.ensures at c.field.ensures) _ c.in-51.is _ refl).whole)

pub field-requires-in-52 : goal.field-requires-in-52
unfolding node_of size_of form sum field_size
field-requires-in-52 c = omega (arith, c.from-at.ensures, (held (slice_bytes _ c.type_inv.table) c.requires (rw c.from-at.ensures at c.field.ensures) _ c.in-52.is _ refl).whole)

pub field-requires-in-52-2 : goal.field-requires-in-52-2
unfolding node_of size_of form sum field_size
field-requires-in-52-2 c = omega (arith, c.from-at.ensures, (held (slice_bytes _ c.type_inv.table) c.requires (rw c.from-at.ensures at c.field.ensures) _ c.in-52.is _ refl).whole)

pub field-requires-in-53 : goal.field-requires-in-53
unfolding node_of size_of form sum field_size
field-requires-in-53 c = omega (arith, c.from-at.ensures, (held (slice_bytes _ c.type_inv.table) c.requires (rw c.from-at.ensures at c.field.ensures) _ c.in-53.is _ refl).whole)

pub field-requires-in-53-2 : goal.field-requires-in-53-2
unfolding node_of size_of form sum field_size
field-requires-in-53-2 c = omega (arith, c.from-at.ensures, (held (slice_bytes _ c.type_inv.table) c.requires (rw c.from-at.ensures at c.field.ensures) _ c.in-53.is _ refl).whole)

pub field-requires-in-53-3 : goal.field-requires-in-53-3
unfolding node_of size_of form sum field_size
field-requires-in-53-3 c = omega (arith, c.from-at.ensures, (held (slice_bytes _ c.type_inv.table) c.requires (rw c.from-at.ensures at c.field.ensures) _ c.in-53.is _ refl).whole)

pub field-requires-in_default : goal.field-requires-in_default
unfolding node_of size_of form sum field_size
field-requires-in_default c =
    let is_last : c.field.result ≡ 54 = last (slice_bytes _ c.type_inv.table) c.requires (rw c.from-at.ensures at c.field.ensures) c.in_default.in_default-own.rest in
    omega (arith, c.from-at.ensures, (held (slice_bytes _ c.type_inv.table) c.requires (rw c.from-at.ensures at c.field.ensures) _ is_last _ refl).whole)

pub field-requires-in_default-2 : goal.field-requires-in_default-2
unfolding node_of size_of form sum field_size
field-requires-in_default-2 c =
    let is_last : c.field.result ≡ 54 = last (slice_bytes _ c.type_inv.table) c.requires (rw c.from-at.ensures at c.field.ensures) c.in_default.in_default-own.rest in
    omega (arith, c.from-at.ensures, (held (slice_bytes _ c.type_inv.table) c.requires (rw c.from-at.ensures at c.field.ensures) _ is_last _ refl).whole)

pub field-requires-in_default-3 : goal.field-requires-in_default-3
unfolding node_of size_of form sum field_size
field-requires-in_default-3 c =
    let is_last : c.field.result ≡ 54 = last (slice_bytes _ c.type_inv.table) c.requires (rw c.from-at.ensures at c.field.ensures) c.in_default.in_default-own.rest in
    omega (arith, c.from-at.ensures, (held (slice_bytes _ c.type_inv.table) c.requires (rw c.from-at.ensures at c.field.ensures) _ is_last _ refl).whole)

pub returns-in-48 : goal.returns-in-48
unfolding node_of size_of form sum field_size
returns-in-48 c = (held (slice_bytes _ c.type_inv.table) c.requires (rw c.from-at.ensures at c.field.ensures) _ c.in-48.is _ refl).is_node

pub returns-in-49 : goal.returns-in-49
unfolding node_of size_of form sum field_size
returns-in-49 c = rw (c.field-in-49.ensures, c.field-in-49-2.ensures, c.from-at.ensures) (held (slice_bytes _ c.type_inv.table) c.requires (rw c.from-at.ensures at c.field.ensures) _ c.in-49.is _ refl).is_node

pub returns-in-50 : goal.returns-in-50
unfolding node_of size_of form sum field_size
returns-in-50 c = rw (c.field-in-50.ensures, c.field-in-50-2.ensures, c.from-at.ensures) (held (slice_bytes _ c.type_inv.table) c.requires (rw c.from-at.ensures at c.field.ensures) _ c.in-50.is _ refl).is_node

pub returns-in-51 : goal.returns-in-51
unfolding node_of size_of form sum field_size
returns-in-51 c =
    rw (c.field-in-51.ensures, c.field-in-51-2.ensures, c.field-in-51-3.ensures, c.from-at.ensures)
    (held (slice_bytes _ c.type_inv.table) c.requires (rw c.from-at.ensures at c.field.ensures) _ c.in-51.is _ refl).is_node

pub returns-in-52 : goal.returns-in-52
unfolding node_of size_of form sum field_size
returns-in-52 c = rw (c.field-in-52.ensures, c.field-in-52-2.ensures, c.from-at.ensures) (held (slice_bytes _ c.type_inv.table) c.requires (rw c.from-at.ensures at c.field.ensures) _ c.in-52.is _ refl).is_node

pub returns-in-53 : goal.returns-in-53
unfolding node_of size_of form sum field_size
returns-in-53 c =
    rw (c.field-in-53.ensures, c.field-in-53-2.ensures, c.field-in-53-3.ensures, c.from-at.ensures)
    (held (slice_bytes _ c.type_inv.table) c.requires (rw c.from-at.ensures at c.field.ensures) _ c.in-53.is _ refl).is_node

pub returns-in_default : goal.returns-in_default
unfolding node_of size_of form sum field_size
returns-in_default c =
    let is_last : c.field.result ≡ 54 = last (slice_bytes _ c.type_inv.table) c.requires (rw c.from-at.ensures at c.field.ensures) c.in_default.in_default-own.rest in
    rw (c.field-in_default.ensures, c.field-in_default-2.ensures, c.field-in_default-3.ensures, c.from-at.ensures)
    (held (slice_bytes _ c.type_inv.table) c.requires (rw c.from-at.ensures at c.field.ensures) _ is_last _ refl).is_node
