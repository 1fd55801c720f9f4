-- A record that changes the image of a page in the pool.
use Rattle.std.specs.Prelude.{◌≡◌, ℕ, ◌+◌, List, [], Some}
use Rattle.tm_data.specs.declared.image.Image.{Image}
use Rattle.tm_data.specs.declared.log.Record.{Record}
use Rattle.tm_data.specs.declared.log.Group.{Group}
use Rattle.log_writer.specs.Log.{last_seq}
use Rattle.page_model.specs.Effects.{prev_of}
use Rattle.page_model.specs.Pool.{Pool, image_of}
use Rattle.master_model.specs.State.{Work}
use Rattle.master_model.specs.Logging.{redone_if}

-- The pool has the image of the page on which the record was made.
abbrev pub IsMadeOn : Pool → ℕ → Record → Type 0
IsMadeOn p page change = (image : Image) × (image_of page p.images ≡ Some image) × (prev_of change ≡ image.stamp.0)

-- The pool with the record's effect on the image of its page.
abbrev pub redone_in : Pool → ℕ → Record → ℕ → Pool
redone_in p page change stamp = record p { images = redone_if p.images change stamp (image_of page p.images) }

-- The group after the next one: with the next one all was told that was learnt.
abbrev pub group_after : Work → List Record → Group
group_after w records = record {
  writer = w.log.writer;
  seq = last_seq w.log + 2;
  stamp = record { 0 = w.clock.scalar + 2 };
  learnt = [];
  records = records;
}
