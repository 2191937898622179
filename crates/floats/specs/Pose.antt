-- Document 01, "Stand-ins": pose times pose is rotate, then add.
use Rattle.floats.specs.Vector.{add_of}
use Rattle.floats.specs.Rotation.{product_of, rotate_of}
use Rattle.floats.specs.declared.pose.Pose.{Pose}

unfoldable pub pose_product_of : Pose → Pose → Pose
pose_product_of p q = record {
  rotation = product_of p.rotation q.rotation;
  translation = add_of (rotate_of p.rotation q.translation) p.translation;
}
