use Rattle.std.proofs.Common.{◌∙◌, sym, arith}
use Rattle.tree_model.proofs.AccessLists.{place-some, top-begins, greatest-takes, greatest-keeps, greatest-done}
use Rattle.tree_model.specs.AccessList.{top_of}
use Rattle.tree_model.proofs.entry_set.top_in.Goals as goal
use Rattle.tree_model.proofs.entry_set.top_in.Goals.{then-is_above, else-is_above}

pub loop-i-init : goal.loop-i-init
loop-i-init c =
    let at = place-some c.args.entries.now 0 (record { user = 0; role = 0; next = 0 }) c.requires in
    record { at = at; hash = c.priority_hash-top_hash.ensures; so_far = top-begins _ c.args.entries.now at }

pub loop-i-preserved : goal.loop-i-preserved
loop-i-preserved c =
    let es = c.args.entries.now in
    let at = place-some es c.loop-i.i (record { user = 0; role = 0; next = 0 }) c.loop-i-test.true in
    elim c.if-is_above.branch [
      | then-is_above w ↦ record {
        at = rw (w.place-is, w.top-is) at;
        hash = rw (w.top_hash-is, w.top-is) c.priority_hash-hash.ensures;
        so_far = rw w.top-is (greatest-takes (top_of es) c.loop-i.top _ es c.loop-i.i at (sym c.is_above.ensures ∙ w.if-is_above.true) c.loop-i.invariant.so_far);
      }
      | else-is_above w ↦ record {
        at = rw (w.place-is, w.top-is) c.loop-i.invariant.at;
        hash = rw (w.top_hash-is, w.top-is) c.loop-i.invariant.hash;
        so_far = rw w.top-is (greatest-keeps (top_of es) c.loop-i.top _ es c.loop-i.i at (sym c.is_above.ensures ∙ w.if-is_above.false) c.loop-i.invariant.so_far);
      }
    ]

pub returns-clause-top : goal.returns-clause-top
returns-clause-top c = greatest-done (top_of c.args.entries.now) c.loop-i.top c.args.entries.now c.loop-i.i (omega arith) c.loop-i.invariant.so_far
