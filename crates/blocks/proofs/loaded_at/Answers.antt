-- What is loaded is made of what the loop reaches and of the number that stands for it (`load-made`).
use Rattle.std.proofs.Common.{ap, ◌∙◌, Bool}
use Rattle.answers.specs.Answers.{checking_of}
use Rattle.reader.specs.OpenNodes.{reached_in}
use Rattle.blocks.specs.Load.{load_in, load-made}
use Rattle.blocks.proofs.loaded_at.Goals as goal

pub returns : goal.returns
returns c =
    let a = c.args in
    ap (λ (b : Bool). load_in (record { checking = c.checked_at.result; block = c.rooted_block.result; whole = b }) c.root-x.new.t) c.is_some.ensures
    ∙ load-made (reached_in a.r a.o.now) a.t.now c.root-x.result c.root-x.new.t c.root-x.ensures c.unwrap_or.result c.unwrap_or.ensures
    (checking_of c.checked_at.result) c.checked_at.ensures _ _ _ c.rooted_block.ensures
