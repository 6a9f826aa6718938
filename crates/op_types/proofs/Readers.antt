-- What a reader of all of the bytes answers, told of what is spelled.
use Rattle.std.proofs.Common.{ℕ, List, Result, Ok, Err, sym, ◌∙◌}
use Rattle.std.specs.Prelude.{IfOk, IsErrOf}
use Rattle.fr_bytes.specs.declared.refusals.ReadRefusal.{ReadRefusal}
use Rattle.fr_bytes.specs.declared.refusals.ReadRefusal.TheVariants as refusals
use Rattle.fr_bytes.specs.Bytes.{IsBytes}
use Rattle.fr_bytes.specs.Reading.{GivesAll, all_of}
use Rattle.op_types.specs.declared.op.Op.{Op}
use Rattle.op_types.specs.declared.op.Leaf.{Leaf}
use Rattle.op_types.specs.Spelling.{SpellsOp, SpellsLeaf}
use Rattle.op_types.specs.Reading.{op_at, leaf_at}
use Rattle.op_types.proofs.Ops.{op_found, op_again, leaf_found, leaf_again}

abbrev plain_op : Op → Op
plain_op op = op

pub op_is_found : (bytes : List ℕ) (result : Result Op ReadRefusal) → IsBytes bytes → GivesAll plain_op result (all_of op_at bytes) → IfOk result (λ op. SpellsOp op bytes)
op_is_found bytes (Ok op) fits read = op_found bytes op fits read
op_is_found bytes (Err e) fits read = tt

pub op_is_only : (bytes : List ℕ) (result : Result Op ReadRefusal) → GivesAll plain_op result (all_of op_at bytes) → IsErrOf result refusals.NotForm → (op : Op) → SpellsOp op bytes → ⊥
op_is_only bytes (Ok x) read none op h = absurd cc
op_is_only bytes (Err refusals.NotForm) read none op h = let e = sym read ∙ op_again bytes op h in cc
op_is_only bytes (Err refusals.NoMemory) read none op h = cc

abbrev plain_leaf : Leaf → Leaf
plain_leaf leaf = leaf

pub leaf_is_found : (bytes : List ℕ) (result : Result Leaf ReadRefusal) → IsBytes bytes → GivesAll plain_leaf result (all_of leaf_at bytes) → IfOk result (λ leaf. SpellsLeaf leaf bytes)
leaf_is_found bytes (Ok leaf) fits read = leaf_found bytes leaf fits read
leaf_is_found bytes (Err e) fits read = tt

pub leaf_is_only : (bytes : List ℕ) (result : Result Leaf ReadRefusal) → GivesAll plain_leaf result (all_of leaf_at bytes) → IsErrOf result refusals.NotForm → (leaf : Leaf) → SpellsLeaf leaf bytes → ⊥
leaf_is_only bytes (Ok x) read none leaf h = absurd cc
leaf_is_only bytes (Err refusals.NotForm) read none leaf h = let e = sym read ∙ leaf_again bytes leaf h in cc
leaf_is_only bytes (Err refusals.NoMemory) read none leaf h = cc
