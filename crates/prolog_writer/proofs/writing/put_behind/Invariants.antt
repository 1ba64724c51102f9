use Rattle.std.proofs.Common.{◌≡◌, length}
use Rattle.prolog_writer.specs.Spaces.{all_added}
use Rattle.prolog_writer.specs.Frames.{behind, frames_behind}
use Rattle.prolog_writer.proofs.writing.put_behind.Given as goal

abbrev pub invariant-loop-frame : goal.invariant-loop-frame
invariant-loop-frame l = record {
  text : all_added l.out (behind l.style l.frames) ≡ all_added l.fn.out (behind l.style l.fn.frames);
  frames : frames_behind l.frames ≡ frames_behind l.fn.frames;
}

abbrev pub decreases-loop-frame : goal.decreases-loop-frame
decreases-loop-frame l = length l.frames
