-- Records of w numbers each, one after the other in a flat list, are multibody's, and so are six numbers at a time.
pub use Rattle.multibody.specs.Records.{num_from, num, word, puts}
pub use Rattle.multibody.specs.JointRecords.{six_of}
