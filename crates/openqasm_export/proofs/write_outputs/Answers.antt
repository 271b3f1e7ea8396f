-- `openqasm_export::write_outputs` meets its contract. Assumes nothing.
use borrow.Author.Rules.{rules}
use Rattle.openqasm_export.proofs.Laws.Writing.{puts_outputs}
use Rattle.openqasm_export.proofs.write_outputs.Goals as goal

pub returns : goal.returns
returns c =
    record {
      same_text = (search rules, search rules);
      puts = λ written begun. puts_outputs c.args.listing.now c.put_bytes.ensures.1 (c.write_names.ensures.puts written begun) c.put_byte.ensures.1;
    }
