use Rattle.frame_core.specs.Image.{key_in}
use Rattle.plain_moves.proofs.Readers.{reads_entry, reads_word, reads_child, reads_tree, reads_core}
use Rattle.plain_moves.proofs.laws.every_write_is_read_back.Goals as goal

pub returns-clause-entry : goal.returns-clause-entry
returns-clause-entry c = λ image child free huge is h few. reads_entry (key_in image) image.words is child free huge h few

pub returns-clause-word : goal.returns-clause-word
returns-clause-word c = λ image word bits is h. reads_word (key_in image) image.words is word bits h

pub returns-clause-child : goal.returns-clause-child
returns-clause-child c = λ image child free huge bits is h few whole are.
    reads_child (key_in image) image.words is child free huge bits h few whole are

pub returns-clause-tree : goal.returns-clause-tree
returns-clause-tree c = λ image tree free reserved is h few. reads_tree (key_in image) image.words is tree free reserved h few

pub returns-clause-core : goal.returns-clause-core
returns-clause-core c = λ image core rest is h fits. reads_core (key_in image) image.words is core rest h fits
