use Rattle.std.proofs.Common.{Ok}
use Rattle.ciel_flow_pieces.proofs.begin.stream_of.Given as goal

abbrev pub ghosts-stream : goal.ghosts-stream
ghosts-stream a = record {
  source = record {
    executor = a.executor.now;
    args = a.args.now;
    outputs = a.outputs;
    index = a.index;
    inputs = Ok a.inputs.now.now;
  };
}
